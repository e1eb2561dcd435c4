-- The words of an expression have no mark of a whole pattern among them.
use Rattle.std.proofs.Common.{◌≡◌, ◌≢◌, List, [], ◌∷◌, ◌++◌, Option, Some, None, refl, sym, ap, ◌∙◌}
use Rattle.ly_ere.specs.Expression.{Expression}
use Rattle.ly_ere.specs.Elements.{Element, closing, bar}
use Rattle.ly_ere.specs.Grammar.{Atom, Piece, Branch, Alternation, byte_atom, string_atom, name_atom, group, atom}
use Rattle.ly_ere.specs.Grammar.{starred, repeated, left_open, piece, joined, counted, branch, parted}
use Rattle.ly_ere.specs.Names.{Definition}
use Rattle.ly_ere.specs.Private.Groups.{Group, Reading, new_group, whole}
use Rattle.ly_ere.proofs.ElementLemmas.{IsInside}
use Rattle.ly_ere.proofs.GroupLemmas.{whole_runs}

-- none of them is one
abbrev pub AreInside : List Element → Type 0
AreInside [] = Unit {0}
AreInside (w ∷ ws) = IsInside w × AreInside ws

inside_append : (ws vs : List Element) → AreInside ws → AreInside vs → AreInside (ws ++ vs)
inside_append [] vs h k = k
inside_append (w ∷ ws) vs h k = (h.0, inside_append ws vs h.1 k)

pub inside_behind : (ws vs : List Element) → AreInside (ws ++ vs) → AreInside vs
inside_behind [] vs h = h
inside_behind (w ∷ ws) vs h = inside_behind ws vs h.1

module _ (names : List Definition) where
  mutual
    atom_inside : {ws : List Element} {e : Expression} → Atom names ws e → AreInside ws
    atom_inside byte_atom = (tt, tt)
    atom_inside string_atom = (tt, tt)
    atom_inside (name_atom is) = (tt, tt)
    atom_inside (group {ws = ws} a) = (tt, inside_append ws (closing ∷ []) (alternation_inside a) (tt, tt))

    piece_inside : {ws : List Element} {e : Expression} → Piece names ws e → AreInside ws
    piece_inside (atom a) = atom_inside a
    piece_inside (starred {ws = ws} p) = inside_append ws _ (piece_inside p) (tt, tt)
    piece_inside (repeated {ws = ws} p) = inside_append ws _ (piece_inside p) (tt, tt)
    piece_inside (left_open {ws = ws} p) = inside_append ws _ (piece_inside p) (tt, tt)

    branch_inside : {ws : List Element} {e : Expression} → Branch names ws e → AreInside ws
    branch_inside (piece p) = piece_inside p
    branch_inside (joined {ws = ws} {vs = vs} b p) = inside_append ws vs (branch_inside b) (piece_inside p)
    branch_inside (counted {ws = ws} b) = inside_append ws _ (branch_inside b) (tt, tt)

    pub alternation_inside : {ws : List Element} {e : Expression} → Alternation names ws e → AreInside ws
    alternation_inside (branch b) = branch_inside b
    alternation_inside (parted {ws = ws} {vs = vs} a b)
        = inside_append ws (bar ∷ vs) (alternation_inside a) (tt, branch_inside b)

  -- an expression has a word
  pub some_word : (e : Expression) → Alternation names [] e → ⊥
  some_word e a =
      let h = whole_runs names [] e a in
      let same : h.0 ≡ new_group = by new_group h.0 h.1 in
      let none : whole h.0 ≡ None = ap whole same in
      let both : Some e ≡ None = sym h.2 ∙ none in
      absurd (cc)
    where
      group_in : Option Reading → Group
      group_in None = new_group
      group_in (Some r) = r.group

      by : (g h : Group)
          → ◌≡◌ {A = Option Reading} (Some (record { outer = []; group = g })) (Some (record { outer = []; group = h }))
          → h ≡ g
      by g h e = sym (ap group_in e)

-- the first mark among words, and what stands before and behind it
pub mark_one : (ws us vs xs : List Element) (m n : Element) → AreInside ws → AreInside us → (IsInside m → ⊥)
    → (IsInside n → ⊥) → ws ++ m ∷ vs ≡ us ++ n ∷ xs → (ws ≡ us) × (m ≡ n) × (vs ≡ xs)
mark_one [] [] vs xs m n h k p q e = (refl, cc, cc)
mark_one [] (u ∷ us) vs xs m n h k p q e = let same : u ≡ m = cc in absurd (p (rw same at k.0))
mark_one (w ∷ ws) [] vs xs m n h k p q e = let same : w ≡ n = cc in absurd (q (rw same at h.0))
mark_one (w ∷ ws) (u ∷ us) vs xs m n h k p q e =
    let first : w ≡ u = cc in
    let more = mark_one ws us vs xs m n h.1 k.1 p q (cc) in
    let others : ws ≡ us = more.0 in
    (cc, more.1, more.2)

-- words without a mark have none
pub no_mark : (ws us vs : List Element) (m : Element) → AreInside ws → (IsInside m → ⊥) → ws ≢ us ++ m ∷ vs
no_mark ws us vs m h p e = let k : AreInside (m ∷ vs) = inside_behind us (m ∷ vs) (rw e at h) in p k.0
