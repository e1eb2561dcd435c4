-- An expression under other definitions of its names: the same words, with other numbers for the names.
use Rattle.std.proofs.Common.{◌≡◌, ℕ, List, [], ◌∷◌, ◌++◌, map, ap, ap₂, refl, sym, arith, inl, inr, ◌⊎◌}
use Rattle.std.proofs.Common.{Some, zero, suc, ◌∙◌}
use Rattle.std.proofs.lemmas.List.{map-append}
use Rattle.std.specs.Prelude.{Contains}
use Rattle.std.proofs.lemmas.List.Elements.{Contains-append_cases, Contains-append_left, Contains-append_right}
use Rattle.ly_ere.specs.Elements.{Element}
use Rattle.ly_ere.specs.Expression.{Expression, concat, either, empty, name, optional, plus, repeat, set, star}
use Rattle.ly_ere.specs.Grammar.{Alternation, Atom, Branch, Piece, atom, branch, byte_atom, counted, group, in_order}
use Rattle.ly_ere.specs.Grammar.{joined, left_open, name_atom, parted, piece, repeated, starred, string_atom}
use Rattle.ly_ere.specs.Grammar.{with_bytes}
use Rattle.ly_ere.specs.Names.{Definition, number_of}
use Rattle.ly_ere.specs.Private.Uses.{renumbered, uses_of}

-- bytes have no names
bytes_renumbered : (f : ℕ → ℕ) (e : Expression) (bs : List ℕ) → renumbered f e ≡ e
    → renumbered f (with_bytes e bs) ≡ with_bytes e bs
bytes_renumbered f e [] is = is
bytes_renumbered f e (b ∷ bs) is
    = bytes_renumbered f (concat e (set (b ∷ []))) bs (ap (λ r. concat r (set (b ∷ []))) is)

string_renumbered : (f : ℕ → ℕ) (bs : List ℕ) → renumbered f (in_order bs) ≡ in_order bs
string_renumbered f [] = refl
string_renumbered f (b ∷ bs) = bytes_renumbered f (set (b ∷ [])) bs refl

bytes_use : (e : Expression) (bs : List ℕ) (x : ℕ) → (Contains (uses_of e) x → ⊥)
    → Contains (uses_of (with_bytes e bs)) x → ⊥
bytes_use e [] x none has = none has
bytes_use e (b ∷ bs) x none has = bytes_use (concat e (set (b ∷ []))) bs x
    (λ h. only (Contains-append_cases (uses_of e) [] x h)) has
  where
    only : Contains (uses_of e) x ⊎ Contains [] x → ⊥
    only (inl h) = none h
    only (inr h) = omega (arith, h.1)

string_uses : (bs : List ℕ) (x : ℕ) → Contains (uses_of (in_order bs)) x → ⊥
string_uses [] x has = omega (arith, has.1)
string_uses (b ∷ bs) x has = bytes_use (set (b ∷ [])) bs x (λ h. omega (arith, h.1)) has

in_either : {A B C : Type 0} → A ⊎ B → (A → C) → (B → C) → C
in_either (inl a) f g = f a
in_either (inr b) f g = g b

module _ (N : List Definition) where
  -- each name that is used is among the definitions
  abbrev IsFound : ℕ → Type 0
  IsFound x = (n : List ℕ) × (number_of N n ≡ Some x)

  mutual
    atom_found : {ws : List Element} {e : Expression} → Atom N ws e → (x : ℕ) → Contains (uses_of e) x → IsFound x
    atom_found byte_atom x has = absurd (omega (arith, has.1))
    atom_found (string_atom {bytes = bytes}) x has = absurd (string_uses bytes x has)
    atom_found (name_atom {n = n} {x = y} is) x has = (n, is ∙ ap Some (only has))
      where
        only : Contains (y ∷ []) x → y ≡ x
        only (zero, l, e) = e
        only (suc k, l, e) = absurd (omega (arith, l))
    atom_found (group a) x has = alternation_found a x has

    piece_found : {ws : List Element} {e : Expression} → Piece N ws e → (x : ℕ) → Contains (uses_of e) x → IsFound x
    piece_found (atom a) x has = atom_found a x has
    piece_found (starred p) x has = piece_found p x has
    piece_found (repeated p) x has = piece_found p x has
    piece_found (left_open p) x has = piece_found p x has

    branch_found : {ws : List Element} {e : Expression} → Branch N ws e → (x : ℕ) → Contains (uses_of e) x → IsFound x
    branch_found (piece p) x has = piece_found p x has
    branch_found (joined {e = e} {f = f} b p) x has
        = in_either (Contains-append_cases (uses_of e) (uses_of f) x has) (branch_found b x) (piece_found p x)
    branch_found (counted b) x has = branch_found b x has

    pub alternation_found : {ws : List Element} {e : Expression} → Alternation N ws e → (x : ℕ)
        → Contains (uses_of e) x → IsFound x
    alternation_found (branch b) x has = branch_found b x has
    alternation_found (parted {e = e} {f = f} a b) x has
        = in_either (Contains-append_cases (uses_of e) (uses_of f) x has) (alternation_found a x) (branch_found b x)

module _ (N K : List Definition) (g : ℕ → ℕ) where
  -- the names that are used have these numbers among other definitions
  abbrev AreKnown : List ℕ → Type 0
  AreKnown uses = (n : List ℕ) (x : ℕ) → number_of N n ≡ Some x → Contains uses x → number_of K n ≡ Some (g x)

  left : (us vs : List ℕ) → AreKnown (us ++ vs) → AreKnown us
  left us vs known n x is has = known n x is (Contains-append_left us vs x has)

  right : (us vs : List ℕ) → AreKnown (us ++ vs) → AreKnown vs
  right us vs known n x is has = known n x is (Contains-append_right us vs x has)

  mutual
    atom_known : {ws : List Element} {e : Expression} → Atom N ws e → AreKnown (uses_of e) → Atom K ws (renumbered g e)
    atom_known byte_atom known = byte_atom
    atom_known (string_atom {bytes = bytes}) known = rw (string_renumbered g bytes) string_atom
    atom_known (name_atom {n = n} {x = x} is) known = name_atom (known n x is (zero, omega arith, refl))
    atom_known (group a) known = group (alternation_known a known)

    piece_known : {ws : List Element} {e : Expression} → Piece N ws e → AreKnown (uses_of e)
        → Piece K ws (renumbered g e)
    piece_known (atom a) known = atom (atom_known a known)
    piece_known (starred p) known = starred (piece_known p known)
    piece_known (repeated p) known = repeated (piece_known p known)
    piece_known (left_open p) known = left_open (piece_known p known)

    branch_known : {ws : List Element} {e : Expression} → Branch N ws e → AreKnown (uses_of e)
        → Branch K ws (renumbered g e)
    branch_known (piece p) known = piece (piece_known p known)
    branch_known (joined {e = e} {f = f} b p) known
        = joined (branch_known b (left (uses_of e) (uses_of f) known))
        (piece_known p (right (uses_of e) (uses_of f) known))
    branch_known (counted b) known = counted (branch_known b known)

    pub alternation_known : {ws : List Element} {e : Expression} → Alternation N ws e → AreKnown (uses_of e)
        → Alternation K ws (renumbered g e)
    alternation_known (branch b) known = branch (branch_known b known)
    alternation_known (parted {e = e} {f = f} a b) known
        = parted (alternation_known a (left (uses_of e) (uses_of f) known))
        (branch_known b (right (uses_of e) (uses_of f) known))

-- the uses with other numbers
pub uses_renumbered : (g : ℕ → ℕ) (e : Expression) → uses_of (renumbered g e) ≡ map g (uses_of e)
uses_renumbered g (set bytes) = refl
uses_renumbered g empty = refl
uses_renumbered g (concat r s) = ap₂ (λ us vs. us ++ vs) (uses_renumbered g r) (uses_renumbered g s)
    ∙ sym (map-append g (uses_of r) (uses_of s))
uses_renumbered g (either r s) = ap₂ (λ us vs. us ++ vs) (uses_renumbered g r) (uses_renumbered g s)
    ∙ sym (map-append g (uses_of r) (uses_of s))
uses_renumbered g (star r) = uses_renumbered g r
uses_renumbered g (plus r) = uses_renumbered g r
uses_renumbered g (optional r) = uses_renumbered g r
uses_renumbered g (repeat m n r) = uses_renumbered g r
uses_renumbered g (name x) = refl
