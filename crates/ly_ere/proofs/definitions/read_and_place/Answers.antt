use Rattle.std.proofs.Common.{◌≡◌, ◌<◌, ◌⊎◌, None, Some, ℕ, List, arith, inl, inr, length, map, subst}
use Rattle.std.specs.Prelude.{Contains, MatchOption, Vec}
use Rattle.std.specs.Global.{Global}
use Rattle.std.proofs.lemmas.List.{length-map}
use Rattle.ly_ere.specs.Definitions.{AreDistinct, AreRefused, DefinedText, named_text, named_texts}
use Rattle.ly_ere.specs.Private.Definitions.{AreRead, text_uses}
use Rattle.ly_ere.specs.Definitions.{known_names}
use Rattle.ly_ere.specs.Private.Turns.{ArePut}
use Rattle.ly_ere.specs.declared.definitions.Refusal.{Refusal}
use Rattle.ly_ere.specs.declared.definitions.DefinitionTexts.{DefinitionTexts}
use Rattle.ly_ere.specs.declared.fault.EreFault.TheVariants.{Refused}
use Rattle.ly_ere.specs.declared.fault.EreFaultKind.TheVariants.{NameCycle}
use Rattle.ly_ere.specs.declared.turns.InTurn.{InTurn}
use Rattle.ly_ere.proofs.DefinitionLemmas.{refused_cycle, refused_text}
use Rattle.ly_ere.proofs.definitions.read_and_place.Goals as goal

-- the lists as they are put in order
put : (t : DefinitionTexts) (us : List (Vec ℕ Global)) (p : InTurn) → us ≡ t.uses.items
    → ArePut (map (λ (v : Vec ℕ Global). v.items) us) p → ArePut (text_uses t) p
put t us p is h = subst (λ (vs : List (Vec ℕ Global)). ArePut (map (λ (v : Vec ℕ Global). v.items) vs) p) is h

refused : (most : ℕ) (list : List DefinedText) → AreDistinct list → (t : DefinitionTexts)
    → AreRead (known_names list) list t
    → (p : InTurn) → ArePut (text_uses t) p → (r : Refusal)
    → (t.refusal ≡ Some r) ⊎ ((p.left ≡ Some r.place) × (r.fault ≡ Refused NameCycle 0))
    → AreRefused most list r.place r.fault
refused most list distinct t a p h r (inl is) = refused_text most list distinct r (a.refusal r is)
refused most list distinct t a p h r (inr is) =
    let left = subst (λ o. MatchOption o ((n : ℕ) → n < length (text_uses t) → Contains p.order.items n)
    (λ n. (n < length (text_uses t)) × (Contains p.order.items n → ⊥))) is.0 h.left in
    rw is.1 (refused_cycle most list distinct t a p.order.items h.last r.place
    (omega (arith, left.0, length-map t.uses.items (λ (v : Vec ℕ Global). v.items), a.counted)) left.1)

pub returns-in-Some-clause-refused : goal.returns-in-Some-clause-refused
returns-in-Some-clause-refused c = refused c.args.limits.now.pattern_weight (named_texts c.args.list.now)
    c.requires.distinct c.in_ok-texts.texts c.in_ok-texts.ensures c.in_ok-turns.turns
    (put c.in_ok-texts.texts c.deref.result.now c.in_ok-turns.turns c.deref.ensures.value c.in_ok-turns.ensures)
    c.in-Some.refusal (c.first_refusal.ensures.some c.in-Some.refusal c.in-Some.is)

all : (list : List DefinedText) (t : DefinitionTexts) → AreRead (known_names list) list t → (p : InTurn)
    → ArePut (text_uses t) p
    → p.left ≡ None → (n : ℕ) → n < length list → Contains p.order.items n
all list t a p h is n l =
    let left = subst (λ o. MatchOption o ((n : ℕ) → n < length (text_uses t) → Contains p.order.items n)
    (λ n. (n < length (text_uses t)) × (Contains p.order.items n → ⊥))) is h.left in
    left n (omega (arith, l, length-map t.uses.items (λ (v : Vec ℕ Global). v.items), a.counted))

pub place-requires-clause-all : goal.place-requires-clause-all
place-requires-clause-all c n l =
    rw c.deref-2.ensures.value (all (named_texts c.args.list.now) c.in_ok-texts.texts c.in_ok-texts.ensures
    c.in_ok-turns.turns
    (put c.in_ok-texts.texts c.deref.result.now c.in_ok-turns.turns c.deref.ensures.value c.in_ok-turns.ensures)
    (c.first_refusal.ensures.none c.in_default.is).1 n (omega (arith, l, length-map c.args.list.now named_text)))
