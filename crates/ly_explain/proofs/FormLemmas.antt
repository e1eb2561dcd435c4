-- What a report begins with.
use Rattle.std.proofs.Common.{◌≡◌, ◌∙◌, ◌++◌, [], ℕ, List, Option, Some, None, ap, append_assoc, is_some, refl}
use Rattle.std.proofs.Common.{subst, true≢false, unwrap_or}
use Rattle.std.specs.Prelude.{Err, IfOk, Ok, Result}
use Rattle.std.specs.declared.alloc.Global.{Global}
use Rattle.std.specs.declared.vec.Vec.{Vec}
use Rattle.ly_text_buffer.specs.TextBuffer.{Says}

-- a buffer has exactly these bytes, unless an allocation failed
abbrev pub Has : List ℕ → Option (List ℕ) → Type 0
Has text None = Unit {0}
Has text (Some t) = t ≡ text

-- a buffer begins with these bytes, unless an allocation failed
abbrev pub Begins : List ℕ → Option (List ℕ) → Type 0
Begins front None = Unit {0}
Begins front (Some text) = (rest : List ℕ) × (text ≡ front ++ rest)

-- more bytes
pub has_more : (text more : List ℕ) (a b : Option (List ℕ)) → Has text a → Says a more b → Has (text ++ more) b
has_more text more a None has says = tt
has_more text more None (Some t) has says = absurd (true≢false (ap is_some says))
has_more text more (Some s) (Some t) has says = ap (λ o. unwrap_or o []) says ∙ ap (λ x. x ++ more) has

-- the first bytes
pub has_one : (text : List ℕ) (a b : Option (List ℕ)) → a ≡ Some [] → Says a text b → Has text b
has_one text a b empty says = has_more [] text (Some []) b refl (rw empty at says)

-- four parts
pub has_four : (p q r s : List ℕ) (a b c d e : Option (List ℕ)) → a ≡ Some [] → Says a p b → Says b q c → Says c r d
    → Says d s e → Has (p ++ ((q ++ r) ++ s)) e
has_four p q r s a b c d e empty first second third fourth = subst (λ text. Has text e)
    (ap (λ text. text ++ s) (append_assoc p q r) ∙ append_assoc p (q ++ r) s)
    (has_more ((p ++ q) ++ r) s d e
    (has_more (p ++ q) r c d (has_more p q b c (has_one p a b empty first) second) third) fourth)

-- the bytes that come first
pub begins_more : (front more : List ℕ) (a b : Option (List ℕ)) → Has front a → Says a more b → Begins front b
begins_more front more a None has says = tt
begins_more front more None (Some t) has says = absurd (true≢false (ap is_some says))
begins_more front more (Some s) (Some t) has says =
    (more, ap (λ o. unwrap_or o []) says ∙ ap (λ x. x ++ more) has)

-- what is returned
pub if_begins : {E : Type 0} (front : List ℕ) (b : Option (List ℕ)) (r : Result (Vec ℕ Global) E) → Begins front b
    → IfOk r (λ text. b ≡ Some text.items) → IfOk r (λ text. (rest : List ℕ) × (text.items ≡ front ++ rest))
if_begins front b (Err e) begins is = tt
if_begins front b (Ok text) begins is = rw is at begins
