use Rattle.std.proofs.Common.{IfErr, IfOk, refl, subst, sym}
use Rattle.std.proofs.lemmas.Result.{IfErr-weaker, IfOk-weaker}
use Rattle.ly_base.specs.Limits.{Sizes}
use Rattle.ly_grammar.specs.Reduction.{KeepsUseful}
use Rattle.ly_emit.specs.Tables.{AreShapesWithin}
use Rattle.ly_join.specs.Grammar.{Grammar}
use Rattle.ly_join.specs.Joined.{Spec}
use Rattle.ly_lr0.specs.Automaton.{Lr0Automaton}
use Rattle.ly_lr0.proofs.LawLemmas.{no_more}
use Rattle.ly_generate.specs.Accepted.{IsUnfitFor}
use Rattle.ly_generate.specs.Parser.{IsParserOf}
use Rattle.ly_generate.specs.Private.Settled.{IsParserOver}
use Rattle.ly_generate.proofs.parser.specification_parser.Goals as goal

pub settled_parser-requires-clause-shapes : goal.settled_parser-requires-clause-shapes
settled_parser-requires-clause-shapes c =
    subst AreShapesWithin (sym c.in_ok-resolved.ensures.spec) c.requires

pub returns-clause-parser : goal.returns-clause-parser
returns-clause-parser c =
    let s = c.args.spec.now in
    let M = c.in_ok-lr0.lr0 in
    let limits = c.args.limits.now in
    let lawful = c.in_ok-lr0.ensures.automaton in
    let few = c.in_ok-lr0.ensures.few in
    let resolved = c.in_ok-resolved.ensures in
    let report = c.args.report in
    IfOk-weaker c.settled_parser.result (IsParserOver s M report) (IsParserOf limits s report)
    (λ p is. record {
      automaton = M;
      is_automaton = lawful;
      few = few;
      fit = record {
        useful_rules = subst (λ (G : Grammar). KeepsUseful G M.grammar) c.grammar.ensures.grammar
            (subst (λ (R : Grammar). KeepsUseful c.grammar.result.now R) (sym c.in_ok-lr0.ensures.grammar)
            c.in_ok-reduced.ensures.ok.keeps);
        reduced = lawful.reduced;
        few = no_more M limits.parser_states lawful few;
        steady = record {
          automaton = M;
          is_automaton = lawful;
          same = refl;
          machine = p.machine;
          is_machine = is.is_machine;
          steady = is.steady;
        };
      };
      is_machine = is.is_machine;
      steady = is.steady;
      counts = is.counts;
      free = is.free;
      reported = is.reported;
    })
    (subst (λ (A : Lr0Automaton). IfOk c.settled_parser.result (IsParserOver s A report)) resolved.automaton
    (subst (λ (t : Spec). IfOk c.settled_parser.result (IsParserOver t c.in_ok-resolved.resolved.automaton report))
    resolved.spec c.settled_parser.ensures.parser))

pub returns-clause-unfit : goal.returns-clause-unfit
returns-clause-unfit c = IfErr-weaker c.settled_parser.result
    (λ fault. (limits : Sizes) → IsUnfitFor limits c.args.spec.now fault) (IsUnfitFor c.args.limits.now c.args.spec.now)
    (λ fault unfit. unfit c.args.limits.now)
    (subst (λ (s : Spec). IfErr c.settled_parser.result (λ fault. (limits : Sizes) → IsUnfitFor limits s fault))
    c.in_ok-resolved.ensures.spec c.settled_parser.ensures.unfit)
