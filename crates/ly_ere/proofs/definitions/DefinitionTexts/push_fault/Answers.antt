use Rattle.std.proofs.Common.{◌≡◌, ◌++◌, ◌∷◌, [], Option, Some, None, true, subst, sym, ◌∙◌}
use Rattle.std.specs.Option.{is_some}
use Rattle.ly_base.proofs.ListLemmas.{slice_get-behind}
use Rattle.ly_ere.proofs.PlaceLemmas.{none_some, some_one}
use Rattle.ly_ere.specs.declared.definitions.Refusal.{Refusal}
use Rattle.ly_ere.specs.declared.definitions.DefinitionTexts.{DefinitionTexts}
use Rattle.ly_ere.specs.Private.Definitions.{IsTextRefusal}
use Rattle.ly_ere.proofs.DefinitionLemmas.{read_none, refusals_later}
use Rattle.ly_ere.proofs.definitions.DefinitionTexts.push_fault.Goals as goal

pub returns-then-is_none : goal.returns-then-is_none
returns-then-is_none c known list d a none at =
    let new : Refusal = record { place = c.len-place.result; fault = c.args.fault } in
    let refusal : (r : Refusal) → Some new ≡ Some r → IsTextRefusal known (list ++ d ∷ []) r
    = λ r is. subst (IsTextRefusal known (list ++ d ∷ [])) (some_one is) (record {
      text = d;
      is = slice_get-behind list [] c.len-place.result d
          (sym (c.len-place.ensures ∙ (c.args.self.now.uses.ok.0 ∙ a.counted)));
      none = none;
      memory = c.requires.memory;
      weight = c.requires.weight;
      cycle = c.requires.cycle;
      at = at;
    }) in
    read_none known list d c.args.self.now _ a _ c.in_ok-push.ensures.items none c.new.ensures.items
    (λ e. none_some (sym e)) refusal

none_is_none : (o : Option Refusal) → is_some o ≡ true → o ≡ None → ⊥
none_is_none None some e = cc
none_is_none (Some r) some e = none_some (sym e)

pub returns-else-is_none : goal.returns-else-is_none
returns-else-is_none c known list d a none at =
    let self = c.args.self.now in
    let u : DefinitionTexts
    = record { expressions = self.expressions; uses = c.push.new.self; refusal = self.refusal } in
    let some : is_some c.args.self.now.refusal ≡ true = c.if-is_none.ensures in
    read_none known list d c.args.self.now _ a _ c.in_ok-push.ensures.items none c.new.ensures.items
    (λ e. none_is_none _ some e) (refusals_later known list d c.args.self.now u a _ c.in_ok-push.ensures.items)
