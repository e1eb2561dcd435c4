use Rattle.std.proofs.Common.{◌≡◌, ◌∙◌, Err, List, [], ◌∷◌, ◌++◌, ap, arith, length, map, refl, subst, sym}
use Rattle.std.specs.Prelude.{slice_range}
use Rattle.std.proofs.lemmas.List.{length-map, map_push}
use Rattle.std.proofs.lemmas.Result.{err_from_is_err_and}
use Rattle.ly_grammar.specs.Items.{HasMoreCores}
use Rattle.ly_join.specs.Grammar.{IsAugmented, symbol_of}
use Rattle.ly_grammar.specs.Derivations.{IsReduced}
use Rattle.ly_lr0.specs.declared.fault.Lr0Fault.TheVariants.{TooManyStates}
use Rattle.ly_lr0.specs.Automaton.{Transition}
use Rattle.ly_lr0.specs.Private.Built.{Link, transitions_of}
use Rattle.ly_lr0.specs.Transitions.{transition_of}
use Rattle.ly_lr0.specs.Private.Found.{links_of, rows_of}
use Rattle.std.proofs.Common.{inl, inr}
use Rattle.std.proofs.lemmas.Bool.{cases_lt}
use Rattle.ly_lr0.proofs.SharedLemmas.{begun_entered}
use Rattle.ly_lr0.proofs.SuccessorLemmas.{HasEntered, entered_more, entered_past, entered_whole}
use Rattle.ly_lr0.proofs.SuccessorLemmas.{kernel_kept}
use Rattle.ly_lr0.specs.Private.Shared.{move_at}
use Rattle.ly_lr0.proofs.found.Found.successors.Goals as goal

pub loop-at-init : goal.loop-at-init
loop-at-init c =
    let f = c.args.self.now in
    let G = f.reduced.now.grammar in
    let count : c.len-from.result ≡ length f.rows.items = let e = c.len-from.ensures in let ok = f.rows.ok.0 in
    omega arith in
    let rows : length f.rows.items ≡ length (rows_of f) = sym (length-map f.rows.items transitions_of) in
    let next = c.requires.next in
    let at = c.shared_moves-at.result in
    let begun = c.in_ok-transitions.transitions.items in
    let ens = c.in_ok-transitions.ensures in
    record {
      at = elim (cases_lt 0 at) [
        | inl some ↦ let long = (c.shared_moves-at.ensures some).long in omega (arith, long)
        | inr none ↦ omega (arith, none)
      ];
      from = count;
      rows = refl;
      reduced = refl;
      limit = refl;
      few = c.requires.found.few;
      kept = λ s l. (l, refl);
      entered = begun_entered f c.args.moves.now c.args.before.now at begun c.requires.found next c.requires.moves
          c.requires.before c.shared_moves-at.ensures ens.none ens.before c.len-from.result count;
    }

pub returns-in_err-target-clause-many : goal.returns-in_err-target-clause-many
returns-in_err-target-clause-many c = λ failed.
    let p = err_from_is_err_and c.from_residual-in_err-target.result c.from_residual-in_err-target.ensures.1 in
    let same : c.in_err-target.field-0.0 ≡ TooManyStates = let a = p.1 in let b = p.2 in cc in
    let f = c.loop-at.self in
    let was = c.loop-at.invariant in
    let full = c.in_err-target.ensures.full (ap (λ e. Err e) same) in
    let is = c.requires.found in
    subst (λ r. HasMoreCores r.now.grammar c.args.self.now.limit) was.reduced
    (subst (HasMoreCores f.reduced.now.grammar) was.limit
    (entered_past f.reduced.now.grammar f.kernels (links_of f) (rows_of f)
    (map transition_of c.loop-at.transitions.items)
    c.len-from.result c.args.moves.now c.loop-at.at was.entered c.group_end-end.result c.group_end-end.ensures
    (subst (λ r. IsAugmented r.now.grammar) (sym was.reduced) is.augmented)
    (subst (λ r. IsReduced r.now.grammar) (sym was.reduced) is.reduced)
    f.limit full.0 full.1))

pub loop-at-preserved : goal.loop-at-preserved
loop-at-preserved c =
    let f = c.loop-at.self in
    let t = c.target.new.self in
    let G = f.reduced.now.grammar in
    let was = c.loop-at.invariant in
    let ens = c.in_ok-target.ensures in
    let n = c.in_ok-target.target.0 in
    let end = c.group_end-end.result in
    let link : Link = record {
      from = c.len-from.result;
      symbol =
          symbol_of (move_at c.args.moves.now c.loop-at.at).symbol;
    } in
    let after : List Transition = map transition_of c.loop-at.transitions.items
    ++ record { symbol = symbol_of (move_at c.args.moves.now c.loop-at.at).symbol; target = n } ∷ [] in
    let kernel = map (λ m. m.item) (slice_range c.args.moves.now c.loop-at.at end) in
    let more = entered_more G f.kernels (links_of f) (rows_of f) (map transition_of c.loop-at.transitions.items)
    c.len-from.result c.args.moves.now c.loop-at.at was.entered end c.group_end-end.ensures t.kernels (links_of t) n
    ens.numbered in
    let pushed = ap (map transition_of) c.in_ok-push.ensures.items
    ∙ map_push transition_of c.loop-at.transitions.items _ in
    record {
      at = c.group_end-end.ensures.within;
      from = was.from ∙ ap (λ v. length v.items) (sym ens.rows);
      rows = ens.rows ∙ was.rows;
      reduced = ens.reduced ∙ was.reduced;
      limit = ens.limit ∙ was.limit;
      few = ens.few;
      kept = λ s l.
          let old = was.kept s l in
          let new = kernel_kept f.kernels (links_of f) _ _ t.kernels (links_of t) n s ens.numbered old.0 in
          (new.1, new.0 ∙ old.1);
      entered = subst (λ ts. HasEntered t.reduced.now.grammar t.kernels (links_of t) (rows_of t) ts c.len-from.result
          c.args.moves.now end) (sym pushed)
          (subst (λ r. HasEntered r.now.grammar t.kernels (links_of t) (rows_of t) after c.len-from.result
          c.args.moves.now end) (sym ens.reduced)
          (subst (λ v. HasEntered G t.kernels (links_of t) (map transitions_of v.items) after c.len-from.result
          c.args.moves.now end) (sym ens.rows) more));
    }

pub returns-clause-found : goal.returns-clause-found
returns-clause-found c = c.loop-at.invariant.entered.found

pub returns-clause-whole : goal.returns-clause-whole
returns-clause-whole c =
    let f = c.loop-at.self in
    let was = c.loop-at.invariant in
    entered_whole f.reduced.now.grammar f.kernels (links_of f) (rows_of f)
    (map transition_of c.loop-at.transitions.items)
    (length f.rows.items) c.args.moves.now c.loop-at.at
    (subst (λ n. HasEntered f.reduced.now.grammar f.kernels (links_of f)
    (rows_of f) (map transition_of c.loop-at.transitions.items) n c.args.moves.now c.loop-at.at) was.from was.entered)
    (let end = c.loop-at-test.false in omega arith)
