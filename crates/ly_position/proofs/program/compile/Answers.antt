use Rattle.std.proofs.Common.{◌≡◌, ◌++◌, ◌∷◌, [], ℕ, List, Option, Some, None, length, map, get_or, subst, ◌∙◌, ap}
use Rattle.std.proofs.Common.{sym, arith}
use Rattle.std.proofs.lemmas.List.{length-map}
use Rattle.ly_ere.specs.Arena.{part_of}
use Rattle.ly_position.specs.Private.Program.{step_of}
use Rattle.ly_position.specs.Private.Plain.{expression_at, listed}
use Rattle.ly_position.specs.Private.Compile.{IsProgram}
use Rattle.ly_position.proofs.ProgramLemmas.{program_start, program_next, program_step}
use Rattle.ly_position.proofs.program.compile.Goals as goal
use Rattle.ly_position.proofs.program.compile.Goals.{in-None, in-Some+in_ok-append_rule-in-Some}

pub loop-number-init : goal.loop-number-init
loop-number-init c = program_start (listed c.args.plan.now.plain c.args.plan.now.parts.items)
    (map step_of c.new.result.items) c.new-2.result.items (ap (map step_of) c.new.ensures.items) c.new-2.ensures.items

pub loop-number-preserved : goal.loop-number-preserved
loop-number-preserved c =
    let es = c.args.plan.now.plain in
    let parts = c.args.plan.now.parts.items in
    let rule = listed es parts in
    let n = c.loop-number.number in
    let before = c.loop-number.invariant in
    let entries = c.loop-number.program.entries.items in
    let g = map step_of c.loop-number.program.instructions.items in
    elim c.match-part.branch [
      | in-None w ↦
          let none : get_or parts n None ≡ None
          = subst (λ (ps : List (Option ℕ)). get_or ps n None ≡ None) c.deref-part-items.ensures.value w.in-None.is
          in
          let fs : c.push.new.self.items ≡ entries ++ None ∷ [] = c.in_ok-push.ensures.items
          ∙ (ap (λ p. p.entries.items ++ c.match-part.entry ∷ []) w.program-is
          ∙ ap (λ (x : Option ℕ). entries ++ x ∷ []) w.entry-is) in
          rw w.program-is
          (program_next rule g entries c.push.new.self.items n before (ap (expression_at es) none) fs)
      | in-Some+in_ok-append_rule-in-Some w ↦
          let a = w.in-Some.part in
          let some : get_or parts n None ≡ Some a
          = subst (λ (ps : List (Option ℕ)). get_or ps n None ≡ Some a) c.deref-part-items.ensures.value
          w.in-Some.is in
          let e = w.in_ok-append_rule-in-Some.field-0 in
          let fs : c.push.new.self.items ≡ entries ++ Some e ∷ [] = c.in_ok-push.ensures.items
          ∙ (ap (λ p. p.entries.items ++ c.match-part.entry ∷ []) w.program-is
          ∙ ap (λ (x : Option ℕ). entries ++ x ∷ []) w.entry-is) in
          rw w.program-is
          (program_step rule g (map step_of w.append_rule.new.instructions.items) entries c.push.new.self.items n
          (length c.loop-number.program.instructions.items) e (part_of es a) before (ap (expression_at es) some)
          (sym (length-map c.loop-number.program.instructions.items step_of))
          w.in_ok-append_rule-in-Some.ensures.entry w.in_ok-append_rule-in-Some.ensures.steps fs)
    ]

pub returns : goal.returns
returns c =
    let all : c.loop-number.number ≡ length c.args.plan.now.parts.items = omega arith in
    subst (λ n. IsProgram (listed c.args.plan.now.plain c.args.plan.now.parts.items) n
    (map step_of c.loop-number.program.instructions.items) c.loop-number.program.entries.items) all
    c.loop-number.invariant
