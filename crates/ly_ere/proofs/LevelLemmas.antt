-- The parts of open groups stay what they are while nodes are added.
use Rattle.std.proofs.Common.{◌≡◌, ℕ, ◌<◌, ◌≤◌, List, [], ◌∷◌, ◌++◌, length, Option, Some, None, arith, length-append}
use Rattle.std.proofs.Common.{append_assoc, refl, ap, ◌∙◌, sym}
use Rattle.std.specs.Option.{ForSome}
use Rattle.std.specs.Prelude.{All}
use Rattle.std.proofs.lemmas.List.Elements.{All-tail, All-weaker}
use Rattle.std.proofs.Math.Seq.{get_or-append_seam}
use Rattle.std.proofs.Math.ListN.{get_or-append}
use Rattle.ly_ere.specs.Arena.{part_of}
use Rattle.ly_ere.specs.Expression.{Expression, empty}
use Rattle.ly_ere.specs.Private.Groups.{Group, Reading, new_group, whole, with_atom, closed, inside}
use Rattle.ly_ere.specs.declared.level.Level.{Level}
use Rattle.ly_ere.specs.Private.Levels.{ArePartsBelow, IsExtended, seen, group_of, groups_of, reading_of}

part_more : (n m : ℕ) (o : Option ℕ) → n ≤ m → ForSome o (λ k. k < n) → ForSome o (λ k. k < m)
part_more n m o le h = λ k e. let less : k < n = h k e in omega arith

-- the parts are below a greater number too
within_more : (n m : ℕ) (l : Level) → n ≤ m → ArePartsBelow n l → ArePartsBelow m l
within_more n m l le h = record {
  either = part_more n m l.either le h.either;
  branch = part_more n m l.branch le h.branch;
  piece = part_more n m l.piece le h.piece;
}

pub grows_trans : (a b c : List Expression) → IsExtended a b → IsExtended b c → IsExtended a c
grows_trans a b c g h = (g.0 ++ h.0, rw (h.1, g.1, append_assoc) refl)

pub grows_push : (a b : List Expression) (e : Expression) → b ≡ a ++ e ∷ [] → IsExtended a b
grows_push a b e q = (e ∷ [], q)

pub grows_length : (a b : List Expression) → IsExtended a b → length a ≤ length b
grows_length a b g = omega (arith, ap length g.1, length-append a g.0)

-- the parts are there still
pub within_grown : (a b : List Expression) (levels : List Level) → IsExtended a b
    → All (ArePartsBelow (length a)) levels
    → All (ArePartsBelow (length b)) levels
within_grown a b levels g = All-weaker (ArePartsBelow (length a)) (ArePartsBelow (length b))
    (λ l. within_more (length a) (length b) l (grows_length a b g)) levels

-- a part stays what it is
pub part_same : (a b : List Expression) (k : ℕ) → IsExtended a b → k < length a → part_of b k ≡ part_of a k
part_same a b k g less = rw g.1 (get_or-append a g.0 empty k less)

-- the part that was added last
pub part_last : (a b : List Expression) (e : Expression) (k : ℕ) → b ≡ a ++ e ∷ [] → k ≡ length a → part_of b k ≡ e
part_last a b e k q l = rw (q, l) (get_or-append_seam a e [] empty)

pub seen_same : (a b : List Expression) (o : Option ℕ) → IsExtended a b → ForSome o (λ k. k < length a)
    → seen b o ≡ seen a o
seen_same a b None g h = refl
seen_same a b (Some k) g h = ap Some (part_same a b k g (h k refl))

pub group_same : (a b : List Expression) (l : Level) → IsExtended a b → ArePartsBelow (length a) l
    → group_of b l ≡ group_of a l
group_same a b l g h = let p = seen_same a b l.either g h.either in let q = seen_same a b l.branch g h.branch
    in let r = seen_same a b l.piece g h.piece in cc

pub groups_push : (a : List Expression) (ls : List Level) (l : Level)
    → groups_of a (ls ++ l ∷ []) ≡ group_of a l ∷ groups_of a ls
groups_push a [] l = refl
groups_push a (m ∷ ls) l = ap (λ gs. gs ++ group_of a m ∷ []) (groups_push a ls l)

pub groups_same : (a b : List Expression) (ls : List Level) → IsExtended a b → All (ArePartsBelow (length a)) ls
    → groups_of b ls ≡ groups_of a ls
groups_same a b [] g h = refl
groups_same a b (l ∷ ls) g h
    = rw (
      groups_same a b ls g (All-tail (ArePartsBelow (length a)) l ls h),
      group_same a b l g (h 0 l (omega arith)),
    ) refl

same_reading : (o p : List Group) (g h : Group) → o ≡ p → g ≡ h
    → ◌≡◌ {A = Option Reading} (Some (record { outer = o; group = g })) (Some (record { outer = p; group = h }))
same_reading o p g h a b = cc

module _ (old mid new : List Expression) (items : List Level) (level : Level) (one : IsExtended old mid)
    (two : IsExtended mid new) (outer_parts : All (ArePartsBelow (length old)) items) where
  -- an atom was added to a group
  pub atom_step : (l : Level) (atom : ℕ) (e : Expression) → ArePartsBelow (length old) level → part_of mid atom ≡ e
      → group_of new l ≡ with_atom (group_of mid level) (part_of mid atom)
      → Some (record { outer = groups_of old items; group = with_atom (group_of old level) e })
      ≡ Some (reading_of new items l)
  atom_step l atom e parts is q
      = same_reading _ _ _ _ (sym (groups_same old new items (grows_trans old mid new one two) outer_parts))
      (sym (q ∙ (ap (λ g. with_atom g (part_of mid atom)) (group_same old mid level one parts)
      ∙ ap (with_atom (group_of old level)) is)))

  -- a group was closed
  pub close_step : (all : List Level) (around l : Level) (atom : ℕ) → all ≡ items ++ around ∷ []
      → ArePartsBelow (length old) around → whole (group_of old level) ≡ Some (part_of mid atom)
      → group_of new l ≡ with_atom (group_of mid around) (part_of mid atom)
      → closed (groups_of old all) (whole (group_of old level)) ≡ Some (reading_of new items l)
  close_step all around l atom is parts w q = rw (is, groups_push, w)
      (same_reading _ _ _ _ (sym (groups_same old new items (grows_trans old mid new one two) outer_parts))
      (sym (q ∙ ap (λ g. with_atom g (part_of mid atom)) (group_same old mid around one parts))))

-- a group was opened
pub open_step : (old : List Expression) (items : List Level) (level l : Level) → group_of old l ≡ new_group
    → Some (record { outer = group_of old level ∷ groups_of old items; group = new_group })
    ≡ Some (reading_of old (items ++ level ∷ []) l)
open_step old items level l e = rw groups_push (same_reading _ _ _ _ refl (sym e))

-- the innermost group was changed
pub inside_step : (old new : List Expression) (items : List Level) (l : Level) (o : Option Group) → IsExtended old new
    → All (ArePartsBelow (length old)) items → o ≡ Some (group_of new l)
    → inside (groups_of old items) o ≡ Some (reading_of new items l)
inside_step old new items l o g parts e = rw e (same_reading _ _ _ _ (sym (groups_same old new items g parts)) refl)
