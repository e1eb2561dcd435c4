use Rattle.std.proofs.Common.{◌+◌, ◌-◌, ◌≡◌, ◌⊎◌, ◌<◌, ◌∙◌, ◌++◌, ◌∷◌, [], ℕ, ap, arith, length, map, refl, subst}
use Rattle.std.proofs.Common.{sym}
use Rattle.std.specs.Prelude.{◌↔◌, Contains, slice_index_or}
use Rattle.std.proofs.lemmas.List.{get_or_push, length-map, length_push, map_push}
use Rattle.std.proofs.lemmas.Option.{slice_get_within}
use Rattle.ly_join.specs.Grammar.{IsAugmented}
use Rattle.ly_grammar.specs.Derivations.{IsReduced}
use Rattle.ly_lr0.specs.declared.item.Move.{Move}
use Rattle.ly_lr0.specs.Private.Built.{AreFound, AreInOrder, IsRowOf, IsWholeRow, transitions_of}
use Rattle.ly_lr0.specs.Private.Closing.{AreByLeft, AreComplete, AreKept, AreMoves, IsMoveOfOne, IsRuleAtEnd}
use Rattle.ly_lr0.specs.Private.Found.{links_of, rows_of}
use Rattle.ly_lr0.specs.Private.Items.{IsEntered}
use Rattle.ly_lr0.specs.Private.Kernels.{kernel_at}
use Rattle.ly_lr0.specs.Private.Nonkernel.{AreNonkernel}
use Rattle.ly_lr0.specs.Private.Shared.{AreMovesBefore}
use Rattle.ly_lr0.specs.Transitions.{transition_of}
use Rattle.ly_lr0.proofs.ClosingLemmas.{entered_within}
use Rattle.ly_lr0.proofs.ConstructLemmas.{kernel_complete, kernel_moves, rows_more}
use Rattle.ly_lr0.proofs.construct.Construction.push_row.Goals as goal

pub close-requires-clause-kept : goal.close-requires-clause-kept
close-requires-clause-kept c =
    let f = c.args.self.now.found in
    let less : c.len-row.result < length f.kernels = let next = c.requires.next in let is = c.len-row.ensures in
    let ok = f.rows.ok.0 in omega arith in
    subst (AreKept f.reduced.now.grammar) (sym c.kernel-kernel.ensures)
    (c.requires.made.found.found.kept c.len-row.result less)

pub enter-requires-clause-within : goal.enter-requires-clause-within
enter-requires-clause-within c A h =
    let G = c.args.self.now.found.reduced.now.grammar in
    let by_left = c.args.self.now.by_left in
    let kernel = c.kernel-kernel.result.now in
    let entered : (A : ℕ) → Contains c.members.result.now A ↔ IsEntered G kernel A
    = subst (λ ms. (A : ℕ) → Contains ms A ↔ IsEntered G kernel A) (sym c.members.ensures.these) c.close.ensures.entered
    in
    let within = entered_within G by_left kernel c.requires.made.by_left A ((entered A).0 h) in
    let count = c.requires.made.by_left.count in
    omega arith

pub list_moves-requires : goal.list_moves-requires
list_moves-requires c =
    let f = c.args.self.now.found in
    let less : c.len-row.result < length f.kernels = let next = c.requires.next in let is = c.len-row.ensures in
    let ok = f.rows.ok.0 in omega arith in
    subst (AreKept f.reduced.now.grammar) (sym c.kernel-kernel.ensures)
    (c.requires.made.found.found.kept c.len-row.result less)

pub complete_rules-requires : goal.complete_rules-requires
complete_rules-requires c =
    let f = c.args.self.now.found in
    let less : c.len-row.result < length f.kernels = let next = c.requires.next in let is = c.len-row.ensures in
    let ok = f.rows.ok.0 in omega arith in
    subst (AreKept f.reduced.now.grammar) (sym c.kernel-kernel.ensures)
    (c.requires.made.found.found.kept c.len-row.result less)

pub successors-requires-clause-moves : goal.successors-requires-clause-moves
successors-requires-clause-moves c =
    let f = c.args.self.now.found in
    let G = c.args.self.now.found.reduced.now.grammar in
    let by_left = c.args.self.now.by_left in
    let kernel = c.kernel-kernel.result.now in
    let entered : (A : ℕ) → Contains c.members.result.now A ↔ IsEntered G kernel A
    = subst (λ ms. (A : ℕ) → Contains ms A ↔ IsEntered G kernel A) (sym c.members.ensures.these) c.close.ensures.entered
    in
    let moves : AreMoves G kernel c.list_moves.new.moves.items
    = kernel_moves G by_left kernel c.members.result.now c.enter.new.self c.requires.made.by_left c.in_ok-enter.ensures
    entered c.list_moves.new.moves.items (subst (λ ks. (m : Move) → Contains c.list_moves.new.moves.items m
    ↔ (Contains ks m ⊎ IsMoveOfOne G kernel m)) c.deref.ensures.value c.in_ok-list_moves.ensures.each)
    c.in_ok-list_moves.ensures.rising in
    let number : c.len-row.result ≡ length f.rows.items = let is = c.len-row.ensures in let ok = f.rows.ok.0 in
    omega arith in
    subst (AreMoves G (kernel_at f.kernels (length f.rows.items))) (sym c.deref-3.ensures.value)
    (subst (λ n. AreMoves G (kernel_at f.kernels n) c.list_moves.new.moves.items) number
    (subst (λ k. AreMoves G k c.list_moves.new.moves.items) c.kernel-kernel.ensures moves))

pub successors-requires-clause-before : goal.successors-requires-clause-before
successors-requires-clause-before c = subst (AreMovesBefore c.args.self.now.found) (sym c.deref-4.ensures.value)
    c.requires.made.before

pub row_of-requires : goal.row_of-requires
row_of-requires c =
    let t = c.successors.new.self in
    let new = map transition_of c.in_ok-transitions.transitions.items in
    subst (λ ts. AreInOrder (map transition_of ts)) (sym c.deref-5.ensures.value)
    (subst AreInOrder (get_or_push (rows_of t) new [] (length (rows_of t)) refl)
    (c.in_ok-transitions.ensures.found.sorted (length (rows_of t)) (omega (arith, length_push (rows_of t) new))))

pub returns-clause-made : goal.returns-clause-made
returns-clause-made c =
    let f = c.args.self.now.found in
    let is = c.requires.made in
    let G = c.args.self.now.found.reduced.now.grammar in
    let by_left = c.args.self.now.by_left in
    let kernel = c.kernel-kernel.result.now in
    let entered : (A : ℕ) → Contains c.members.result.now A ↔ IsEntered G kernel A
    = subst (λ ms. (A : ℕ) → Contains ms A ↔ IsEntered G kernel A) (sym c.members.ensures.these) c.close.ensures.entered
    in
    let moves : AreMoves G kernel c.list_moves.new.moves.items
    = kernel_moves G by_left kernel c.members.result.now c.enter.new.self c.requires.made.by_left c.in_ok-enter.ensures
    entered c.list_moves.new.moves.items (subst (λ ks. (m : Move) → Contains c.list_moves.new.moves.items m
    ↔ (Contains ks m ⊎ IsMoveOfOne G kernel m)) c.deref.ensures.value c.in_ok-list_moves.ensures.each)
    c.in_ok-list_moves.ensures.rising in
    let ens = c.in_ok-transitions.ensures in
    let t = c.successors.new.self in
    let n = length f.rows.items in
    let next = c.requires.next in
    let number : c.len-row.result ≡ n = let is = c.len-row.ensures in let ok = f.rows.ok.0 in omega arith in
    let same : t.reduced.now ≡ f.reduced.now = ap (λ r. r.now) ens.reduced in
    let row = c.in_ok-next.next in
    let new = map transition_of c.in_ok-transitions.transitions.items in
    let leaves : transitions_of row ≡ new = c.in_ok-next.ensures.transitions
    ∙ ap (map transition_of) c.deref-5.ensures.value in
    let kept : (s : ℕ) → s < length f.kernels → kernel_at t.kernels s ≡ kernel_at f.kernels s =
    λ s l. (ens.kept s l).1 in
    let complete = kernel_complete G by_left kernel c.members.result.now c.enter.new.self is.by_left
    c.in_ok-enter.ensures entered c.in_ok-complete.complete.items
    (subst (λ ks. (p : ℕ) → Contains c.in_ok-complete.complete.items p
    ↔ (Contains ks p ⊎ IsRuleAtEnd G kernel p)) c.deref-2.ensures.value c.in_ok-complete.ensures.each)
    c.in_ok-complete.ensures.rising in
    let here : kernel ≡ kernel_at t.kernels n = c.kernel-kernel.ensures ∙ ap (kernel_at f.kernels) number
    ∙ sym (kept n next) in
    let rows : f.rows.items ≡ t.rows.items = ap (λ v. v.items) (sym ens.rows) in
    let pushed : c.push.new.self.items ≡ f.rows.items ++ row ∷ []
    = c.in_ok-push.ensures.items ∙ ap (λ xs. xs ++ row ∷ []) (sym rows) in
    let longer : length c.push.new.self.items ≡ n + 1 = ap length pushed ∙ length_push f.rows.items row in
    record {
      found = record {
        augmented = subst (λ r. IsAugmented r.now.grammar) (sym ens.reduced) is.found.augmented;
        reduced = subst (λ r. IsReduced r.now.grammar) (sym ens.reduced) is.found.reduced;
        found = subst (AreFound t.reduced.now.grammar t.kernels (links_of t)) (sym (ap (map transitions_of)
            c.in_ok-push.ensures.items ∙ map_push transitions_of t.rows.items row
            ∙ ap (λ ts. rows_of t ++ ts ∷ []) leaves)) ens.found;
        rows = rows_more f.rows.items c.push.new.self.items row
            (λ s r. IsRowOf t.reduced.now.grammar (kernel_at t.kernels s) r) pushed
            (λ s r e. subst (λ k. IsRowOf t.reduced.now.grammar k r)
            (sym (kept s (let l = slice_get_within f.rows.items s r e in omega (arith, l, next))))
            (subst (λ m. IsRowOf m.now.grammar (kernel_at f.kernels s) r) (sym ens.reduced) (is.found.rows s r e)))
            (record {
              whole = subst (IsWholeRow t.reduced.now.grammar (kernel_at t.kernels n)) (sym leaves)
                  (subst (λ m. IsWholeRow t.reduced.now.grammar (kernel_at t.kernels m) new) (ap length (sym rows))
                  ens.whole);
              complete = subst (λ m. AreComplete m.grammar (kernel_at t.kernels n) row.complete.items) (sym same)
                  (subst (λ v. AreComplete G (kernel_at t.kernels n) v.items) (sym c.in_ok-next.ensures.complete)
                  (subst (λ k. AreComplete G k c.in_ok-complete.complete.items) here complete));
            });
        few = ens.few;
        last = sym (ap (λ rs. slice_index_or (map transitions_of rs) (length c.push.new.self.items - 1) []) pushed
            ∙ ap (λ rs. slice_index_or rs (length c.push.new.self.items - 1) [])
            (map_push transitions_of f.rows.items row)
            ∙ get_or_push (rows_of f) (transitions_of row) [] (length c.push.new.self.items - 1)
            (omega (arith, longer, length-map f.rows.items transitions_of)) ∙ leaves);
      };
      by_left = subst (λ m. AreByLeft m.grammar by_left) (sym same) is.by_left;
      room = subst (λ m. t.reduced.now.grammar.accept < m) (sym c.close.ensures.below)
          (subst (λ m. m.grammar.accept < c.args.self.now.entered.below) (sym same) is.room);
      nonkernel = subst (λ m. AreNonkernel m.grammar c.enter.new.self.entered.items c.enter.new.self) (sym same)
          (subst (λ es. AreNonkernel G es c.enter.new.self) (sym c.in_ok-enter.ensures.of_these) c.in_ok-enter.ensures);
      before = record {
        none = λ e. absurd (omega (arith, e, longer));
        last = λ s e. subst (λ v. AreMoves t.reduced.now.grammar (kernel_at t.kernels s) v.items)
            (sym c.swap.ensures.y_after)
            (subst (λ k. AreMoves t.reduced.now.grammar (kernel_at t.kernels k) c.list_moves.new.moves.items)
            (let l : n ≡ s = omega (arith, e, longer) in l)
            (subst (λ k. AreMoves t.reduced.now.grammar k c.list_moves.new.moves.items) here
            (subst (λ m. AreMoves m.grammar kernel c.list_moves.new.moves.items) (sym same) moves)));
      };
    }
