use Rattle.std.proofs.Common.{◌≡◌, ap, length, refl, rules, sym}
use Rattle.std.proofs.Common.{List, Some, ◌∙◌}
use Rattle.std.specs.Prelude.{All}
use Rattle.std.proofs.lemmas.List.Elements.{All-push}
use Rattle.std.proofs.lemmas.Result.{IfOk-weaker}
use Rattle.ly_base.specs.ByteSet.{members}
use Rattle.ly_ere.specs.declared.level.Level.{Level}
use Rattle.ly_ere.specs.declared.element.Postfix.{Postfix}
use Rattle.ly_ere.specs.declared.element.Postfix.TheVariants.{Asterisk, PlusSign, QuestionMark}
use Rattle.ly_ere.specs.Expression.{Expression, name, set}
use Rattle.ly_ere.specs.Grammar.{in_order}
use Rattle.ly_ere.specs.Names.{Definition, number_of}
use Rattle.ly_ere.specs.Private.Groups.{Reading, inside, step, with_bar, with_interval, with_name, with_postfix}
use Rattle.ly_ere.specs.Private.Levels.{IsExtended, ArePartsBelow, group_of, operated, reading_of}
use Rattle.ly_ere.specs.Private.Elements.{operator_element}
use Rattle.ly_ere.specs.Elements.{one_of, string, named, interval, opening, closing, bar}
use Rattle.ly_ere.proofs.LevelLemmas.{atom_step, grows_push, grows_trans, inside_step, open_step, part_last}
use Rattle.ly_ere.proofs.LevelLemmas.{within_grown}
use Rattle.ly_ere.proofs.read.with_element.Goals as goal

step_postfix : (names : List Definition) (p : Postfix) (r : Reading)
    → step names (operator_element p) r ≡ inside r.outer (with_postfix r.group (operated p))
step_postfix names Asterisk r = refl
step_postfix names PlusSign r = refl
step_postfix names QuestionMark r = refl

operator_step : (names : List Definition) (p : Postfix) (old new : List Expression) (items : List Level)
    (level l : Level) → IsExtended old new
    → All (ArePartsBelow (length old)) items → with_postfix (group_of old level) (operated p) ≡ Some (group_of new l)
    → step names (operator_element p) (reading_of old items level) ≡ Some (reading_of new items l)
operator_step names p old new items level l g parts e = step_postfix names p (reading_of old items level)
    ∙ inside_step old new items l (with_postfix (group_of old level) (operated p)) g parts e

-- the number of a name
name_found : (c : goal.In_ok-with_atom-in-Name) → number_of c.args.names.now c.in-Name.name.now
    ≡ Some c.in_ok-number-in-Name.number
name_found c = sym c.find.ensures ∙ search rules

pub returns-in_ok-with_atom-in-OneOf-clause-outer_parts : goal.returns-in_ok-with_atom-in-OneOf-clause-outer_parts
returns-in_ok-with_atom-in-OneOf-clause-outer_parts c
    = within_grown c.args.arena.now _ _
    (grows_trans c.args.arena.now _ _ (grows_push _ _ _ c.in_ok-atom-in-OneOf.ensures.ok)
    c.in_ok-with_atom-in-OneOf.ensures.grown) c.requires.outer_parts

pub returns-in_ok-with_atom-in-OneOf-clause-step : goal.returns-in_ok-with_atom-in-OneOf-clause-step
returns-in_ok-with_atom-in-OneOf-clause-step c = rw c.in-OneOf.is (
  one_of (members c.in-OneOf.set),
  refl,
  atom_step c.args.arena.now c.push.new.self c.with_atom.new.arena c.args.outer.now.items c.args.level
      (grows_push _ _ _ c.in_ok-atom-in-OneOf.ensures.ok) c.in_ok-with_atom-in-OneOf.ensures.grown
      c.requires.outer_parts
      c.in_ok-with_atom-in-OneOf.field-0 c.in_ok-atom-in-OneOf.atom (set (members c.in-OneOf.set)) c.requires.parts
      (part_last c.args.arena.now c.push.new.self _ c.in_ok-atom-in-OneOf.atom c.in_ok-atom-in-OneOf.ensures.ok
      c.in_ok-atom-in-OneOf.ensures.number) c.in_ok-with_atom-in-OneOf.ensures.atom,
)

pub returns-in_ok-with_atom-in-String-clause-outer_parts : goal.returns-in_ok-with_atom-in-String-clause-outer_parts
returns-in_ok-with_atom-in-String-clause-outer_parts c
    = within_grown c.args.arena.now _ _
    (grows_trans c.args.arena.now _ _ c.in_ok-atom-in-String.ensures.grown c.in_ok-with_atom-in-String.ensures.grown)
    c.requires.outer_parts

pub returns-in_ok-with_atom-in-String-clause-step : goal.returns-in_ok-with_atom-in-String-clause-step
returns-in_ok-with_atom-in-String-clause-step c = let found = c.in_ok-atom-in-String.ensures.string
    in rw c.in-String.is (
      string found.0,
      (found.0, found.1, found.2, refl),
      atom_step c.args.arena.now c.push_string.new.arena c.with_atom-in-String.new.arena c.args.outer.now.items
          c.args.level
          c.in_ok-atom-in-String.ensures.grown c.in_ok-with_atom-in-String.ensures.grown c.requires.outer_parts
          c.in_ok-with_atom-in-String.field-0 c.in_ok-atom-in-String.atom (in_order found.0) c.requires.parts found.3
          c.in_ok-with_atom-in-String.ensures.atom,
    )

pub returns-in_ok-with_atom-in-Name-clause-outer_parts : goal.returns-in_ok-with_atom-in-Name-clause-outer_parts
returns-in_ok-with_atom-in-Name-clause-outer_parts c
    = within_grown c.args.arena.now _ _
    (grows_trans c.args.arena.now _ _ (grows_push _ _ _ c.in_ok-atom-in-Name.ensures.ok)
    c.in_ok-with_atom-in-Name.ensures.grown) c.requires.outer_parts

pub returns-in_ok-with_atom-in-Name-clause-step : goal.returns-in_ok-with_atom-in-Name-clause-step
returns-in_ok-with_atom-in-Name-clause-step c = rw c.in-Name.is (
  named c.in-Name.name.now,
  refl,
  ap (with_name (reading_of c.args.arena.now c.args.outer.now.items c.args.level)) (name_found c)
      ∙ atom_step c.args.arena.now c.push-in-Name.new.self c.with_atom-in-Name.new.arena c.args.outer.now.items
      c.args.level (grows_push _ _ _ c.in_ok-atom-in-Name.ensures.ok) c.in_ok-with_atom-in-Name.ensures.grown
      c.requires.outer_parts c.in_ok-with_atom-in-Name.field-0 c.in_ok-atom-in-Name.atom
      (name c.in_ok-number-in-Name.number) c.requires.parts
      (part_last c.args.arena.now c.push-in-Name.new.self _ c.in_ok-atom-in-Name.atom c.in_ok-atom-in-Name.ensures.ok
      c.in_ok-atom-in-Name.ensures.number) c.in_ok-with_atom-in-Name.ensures.atom,
)

pub returns-in_ok-push-in-Opening-clause-parts : goal.returns-in_ok-push-in-Opening-clause-parts
returns-in_ok-push-in-Opening-clause-parts c = c.new.ensures.parts _

pub returns-in_ok-push-in-Opening-clause-outer_parts : goal.returns-in_ok-push-in-Opening-clause-outer_parts
returns-in_ok-push-in-Opening-clause-outer_parts c
    = rw c.in_ok-push-in-Opening.ensures.items
    (All-push (ArePartsBelow (length c.args.arena.now)) c.args.outer.now.items c.args.level c.requires.outer_parts
    c.requires.parts)

pub returns-in_ok-push-in-Opening-clause-step : goal.returns-in_ok-push-in-Opening-clause-step
returns-in_ok-push-in-Opening-clause-step c = rw (c.in-Opening.is, c.in_ok-push-in-Opening.ensures.items) (
  opening,
  refl,
  open_step c.args.arena.now c.args.outer.now.items c.args.level c.new.result (c.new.ensures.empty c.args.arena.now),
)

pub returns-in-Closing-clause-step : goal.returns-in-Closing-clause-step
returns-in-Closing-clause-step c
    = rw c.in-Closing.is (IfOk-weaker c.close.result _ _ (λ l e. (closing, refl, e)) c.close.ensures.closed)

pub returns-in-Bar-clause-outer_parts : goal.returns-in-Bar-clause-outer_parts
returns-in-Bar-clause-outer_parts c
    = IfOk-weaker c.with_bar.result _ _
    (λ _ _. within_grown c.args.arena.now _ _ c.with_bar.ensures.grown c.requires.outer_parts) c.with_bar.ensures.parts

pub returns-in-Bar-clause-step : goal.returns-in-Bar-clause-step
returns-in-Bar-clause-step c
    = rw c.in-Bar.is
    (IfOk-weaker c.with_bar.result _ _
    (λ l e. (
      bar,
      refl,
      inside_step c.args.arena.now c.with_bar.new.arena c.args.outer.now.items l
          (with_bar (group_of c.args.arena.now c.args.level)) c.with_bar.ensures.grown c.requires.outer_parts e,
    ))
    c.with_bar.ensures.bar)

pub returns-in-Postfix-clause-outer_parts : goal.returns-in-Postfix-clause-outer_parts
returns-in-Postfix-clause-outer_parts c
    = IfOk-weaker c.with_postfix.result _ _
    (λ _ _. within_grown c.args.arena.now _ _ c.with_postfix.ensures.grown c.requires.outer_parts)
    c.with_postfix.ensures.parts

pub returns-in-Postfix-clause-step : goal.returns-in-Postfix-clause-step
returns-in-Postfix-clause-step c
    = rw c.in-Postfix.is
    (IfOk-weaker c.with_postfix.result _ _
    (λ l e. (
      operator_element c.in-Postfix.postfix,
      refl,
      operator_step c.args.names.now c.in-Postfix.postfix c.args.arena.now c.with_postfix.new.arena
          c.args.outer.now.items c.args.level l
          c.with_postfix.ensures.grown c.requires.outer_parts e,
    )) c.with_postfix.ensures.operator)

pub returns-in-Interval-clause-outer_parts : goal.returns-in-Interval-clause-outer_parts
returns-in-Interval-clause-outer_parts c
    = IfOk-weaker c.with_interval.result _ _
    (λ _ _. within_grown c.args.arena.now _ _ c.with_interval.ensures.grown c.requires.outer_parts)
    c.with_interval.ensures.parts

pub returns-in-Interval-clause-step : goal.returns-in-Interval-clause-step
returns-in-Interval-clause-step c
    = rw c.in-Interval.is
    (IfOk-weaker c.with_interval.result _ _
    (λ l e. (
      interval c.in-Interval.least c.in-Interval.most,
      refl,
      inside_step c.args.arena.now c.with_interval.new.arena c.args.outer.now.items l
          (with_interval (group_of c.args.arena.now c.args.level) c.in-Interval.least c.in-Interval.most)
          c.with_interval.ensures.grown c.requires.outer_parts e,
    ))
    c.with_interval.ensures.interval)
