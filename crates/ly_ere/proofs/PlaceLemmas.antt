-- Definitions that are placed one behind another.
use Rattle.std.proofs.Common.{◌≡◌, ◌≢◌, ◌<◌, ◌≤◌, ◌⊎◌, ◌+◌, ℕ, zero, suc, List, [], ◌∷◌, ◌++◌, length, get_or, map}
use Rattle.std.proofs.Common.{take, inl, inr}
use Rattle.std.proofs.Common.{arith, ap, ap₂, sym, subst, refl, Bool, true, false, Option, Some, None, ◌∙◌}
use Rattle.std.proofs.Common.{length-append}
use Rattle.std.specs.Prelude.{Contains, cond, slice_get}
use Rattle.std.specs.List.{position_from}
use Rattle.std.specs.Str.{bytes_eq}
use Rattle.std.proofs.Math.ListN.{get_or-append}
use Rattle.std.proofs.Math.Seq.{get_or-append_seam, take-suc}
use Rattle.std.proofs.lemmas.Bool.{cases_Bool, cases_lt}
use Rattle.std.proofs.lemmas.Iterator.Adapters.{position_from-zero}
use Rattle.std.proofs.lemmas.List.{get_or-map, length-map}
use Rattle.std.proofs.lemmas.List.{take-append-le, take_all}
use Rattle.std.proofs.lemmas.List.Elements.{Contains-get_or}
use Rattle.std.proofs.lemmas.List.Quantifiers.{position-Some}
use Rattle.std.proofs.lemmas.Option.{get_or_from_slice_get, slice_get-get_or, slice_get_within}
use Rattle.std.proofs.lemmas.Slice.Eq.{bytes_eq-Decides}
use Rattle.ly_ere.specs.Definitions.{AreDistinct, AreNames, ArePlaced, IsPlacedNext, DefinedText, next, none}
use Rattle.ly_ere.specs.Expression.{Expression, empty}
use Rattle.ly_ere.specs.Expression as expression
use Rattle.ly_ere.specs.Names.{Definition, number_of}
use Rattle.ly_ere.specs.Patterns.{IsExpression}
use Rattle.ly_ere.specs.Definitions.{known_names}
use Rattle.ly_ere.specs.Private.Uses.{number_for, renumbered, uses_of}
use Rattle.ly_ere.proofs.NumberedLemmas.{alternation_found, alternation_known, uses_renumbered}
use Rattle.ly_ere.proofs.PatternLaws.{expression_one}

-- the one, and else the other
abbrev or_else : Option ℕ → Option ℕ → Option ℕ
or_else None o = o
or_else (Some x) o = Some x

position_append : {X : Type 0} (p : X → Bool) (xs ys : List X) (i : ℕ)
    → position_from p i (xs ++ ys) ≡ or_else (position_from p i xs) (position_from p (i + length xs) ys)
position_append p [] ys i = ap (λ k. position_from p k ys) (more i)
  where
    more : (i : ℕ) → i ≡ i + 0
    more i = omega arith
position_append p (x ∷ xs) ys i = by (p x) (position_append p xs ys (i + 1))
  where
    more : (i k : ℕ) → (i + 1) + k ≡ i + suc k
    more i k = omega arith

    by : (b : Bool) → position_from p (i + 1) (xs ++ ys)
        ≡ or_else (position_from p (i + 1) xs) (position_from p ((i + 1) + length xs) ys)
        → cond b (Some i) (position_from p (i + 1) (xs ++ ys))
        ≡ or_else (cond b (Some i) (position_from p (i + 1) xs)) (position_from p (i + suc (length xs)) ys)
    by true h = refl
    by false h = h ∙ ap (λ k. or_else (position_from p (i + 1) xs) (position_from p k ys)) (more i (length xs))

position_first : {X : Type 0} (p : X → Bool) (xs : List X) (i k : ℕ) (d : X) → k < length xs → p (get_or xs k d) ≡ true
    → ((j : ℕ) → j < k → p (get_or xs j d) ≡ false) → position_from p i xs ≡ Some (i + k)
position_first p [] i k d l is before = absurd (omega (arith, l))
position_first p (x ∷ xs) i zero d l is before = ap (λ b. cond b (Some i) (position_from p (i + 1) xs)) is
    ∙ ap Some (same i)
  where
    same : (i : ℕ) → i ≡ i + 0
    same i = omega arith
position_first p (x ∷ xs) i (suc k) d l is before
    = ap (λ b. cond b (Some i) (position_from p (i + 1) xs)) (before zero (omega arith))
    ∙ (position_first p xs (i + 1) k d (omega (arith, l)) is (λ j less. before (suc j) (omega (arith, less)))
    ∙ ap Some (same i k))
  where
    same : (i k : ℕ) → (i + 1) + k ≡ i + suc k
    same i k = omega arith

-- an option is something or nothing
pub cases_option : {X : Type 0} (o : Option X) → ((x : X) × (o ≡ Some x)) ⊎ (o ≡ None)
cases_option None = inr refl
cases_option (Some x) = inl (x, refl)

same_text : (t u : List ℕ) → t ≡ u → bytes_eq t u ≡ true
same_text t u e = (bytes_eq-Decides t u).1 e

pub some_one : {X : Type 0} {x y : X} → Some x ≡ Some y → x ≡ y
some_one e = cc

pub none_some : {X : Type 0} {x : X} {A : Type 0} → None ≡ Some x → A
none_some e = absurd (cc)

-- a definition of the number of a name has that name
pub number_is : (names : List Definition) (n : List ℕ) (x : ℕ) (d : Definition) → number_of names n ≡ Some x
    → (x < length names) × ((get_or names x d).0 ≡ n)
number_is names n x d is =
    let found = position-Some (λ (d : Definition). bytes_eq n d.0) names x d is in
    (found.0, sym ((bytes_eq-Decides n (get_or names x d).0).0 found.1))

number_append : (names : List Definition) (m : List ℕ) (e : Expression) (n : List ℕ)
    → number_of (names ++ (m, e) ∷ []) n ≡ or_else (number_of names n) (cond (bytes_eq n m) (Some (length names)) None)
number_append names m e n = position_from-zero p (names ++ (m, e) ∷ [])
    ∙ (position_append p names ((m, e) ∷ []) 0
    ∙ (ap (λ o. or_else o (cond (bytes_eq n m) (Some (0 + length names)) None)) (sym (position_from-zero p names))
    ∙ ap (λ k. or_else (number_of names n) (cond (bytes_eq n m) (Some k) None)) (zero_more (length names))))
  where
    p : Definition → Bool
    p d = bytes_eq n d.0

    zero_more : (k : ℕ) → 0 + k ≡ k
    zero_more k = omega arith

-- one more definition changes no number
pub number_before : (names : List Definition) (m : List ℕ) (e : Expression) (n : List ℕ) (x : ℕ)
    → number_of names n ≡ Some x → number_of (names ++ (m, e) ∷ []) n ≡ Some x
number_before names m e n x is
    = number_append names m e n ∙ ap (λ o. or_else o (cond (bytes_eq n m) (Some (length names)) None)) is

-- more definitions change no number
pub number_front : (names more : List Definition) (n : List ℕ) (x : ℕ) → number_of names n ≡ Some x
    → number_of (names ++ more) n ≡ Some x
number_front names more n x is = position_from-zero p (names ++ more)
    ∙ (position_append p names more 0
    ∙ ap (λ o. or_else o (position_from p (0 + length names) more)) (sym (position_from-zero p names) ∙ is))
  where
    p : Definition → Bool
    p d = bytes_eq n d.0

-- a new one is the last
pub number_new : (names : List Definition) (m : List ℕ) (e : Expression) → number_of names m ≡ None
    → number_of (names ++ (m, e) ∷ []) m ≡ Some (length names)
number_new names m e is
    = number_append names m e m ∙ (ap (λ o. or_else o (cond (bytes_eq m m) (Some (length names)) None)) is
    ∙ ap (λ b. cond b (Some (length names)) None) (same_text m m refl))

-- one of another name changes nothing
pub number_other : (names : List Definition) (m : List ℕ) (e : Expression) (n : List ℕ) → bytes_eq n m ≡ false
    → number_of (names ++ (m, e) ∷ []) n ≡ number_of names n
number_other names m e n other = number_append names m e n
    ∙ (ap (λ b. or_else (number_of names n) (cond b (Some (length names)) None)) other ∙ nothing (number_of names n))
  where
    nothing : (o : Option ℕ) → or_else o None ≡ o
    nothing None = refl
    nothing (Some x) = refl

-- a number is one from before, or the last
pub number_cases : (names : List Definition) (m : List ℕ) (e : Expression) (n : List ℕ) (x : ℕ)
    → number_of (names ++ (m, e) ∷ []) n ≡ Some x → (number_of names n ≡ Some x) ⊎ (m ≡ n)
number_cases names m e n x is = by (cases_option (number_of names n))
  where
    whole : or_else (number_of names n) (cond (bytes_eq n m) (Some (length names)) None) ≡ Some x
    whole = sym (number_append names m e n) ∙ is

    by : ((y : ℕ) × (number_of names n ≡ Some y)) ⊎ (number_of names n ≡ None) → (number_of names n ≡ Some x) ⊎ (m ≡ n)
    by (inl (y, found)) = inl (found ∙ (sym (ap (λ o. or_else o (cond (bytes_eq n m) (Some (length names)) None)) found)
        ∙ whole))
    by (inr missing) = inr (sym (last (cases_Bool (bytes_eq n m))))
      where
        rest : cond (bytes_eq n m) (Some (length names)) None ≡ Some x
        rest = sym (ap (λ o. or_else o (cond (bytes_eq n m) (Some (length names)) None)) missing) ∙ whole

        last : (bytes_eq n m ≡ true) ⊎ (bytes_eq n m ≡ false) → n ≡ m
        last (inl same) = (bytes_eq-Decides n m).0 same
        last (inr other) = none_some (sym (ap (λ b. cond b (Some (length names)) None) other) ∙ rest)

-- a definition as it is known
abbrev pub known : DefinedText → Definition
known d = (d.name, expression.set (0 ∷ []))

-- what no list has
abbrev pub no_definition : Definition
no_definition = ([], empty)

abbrev pub no_text : DefinedText
no_text = record { name = []; text = [] }

module _ (list : List DefinedText) where
  -- what is known by a number has that place in the list
  pub known_is : (n : List ℕ) (y : ℕ) → number_of (known_names list) n ≡ Some y
      → (d : DefinedText) × (slice_get list y ≡ Some d) × (d.name ≡ n)
  known_is n y is =
      let found = number_is (known_names list) n y no_definition is in
      let l : y < length list = omega (arith, found.0, length-map list known) in (
        get_or list y no_text,
        slice_get-get_or list y no_text l,
        sym (ap (λ (d : Definition). d.0) (get_or-map known list y no_text no_definition l)) ∙ found.1,
      )

  -- the names of what is placed are those of the list
  pub placed_is : {names : List Definition} → ArePlaced list names → (n : List ℕ) (x : ℕ) → number_of names n ≡ Some x
      → (y : ℕ) × (d : DefinedText) × (slice_get list y ≡ Some d) × (d.name ≡ n)
  placed_is none n x is = none_some is
  placed_is (next placed k d e before step) n x is
      = by (number_cases placed d.name e n x is) (λ was. placed_is before n x was)
    where
      by : (number_of placed n ≡ Some x) ⊎ (d.name ≡ n)
          → (number_of placed n ≡ Some x → (y : ℕ) × (c : DefinedText) × (slice_get list y ≡ Some c) × (c.name ≡ n))
          → (y : ℕ) × (c : DefinedText) × (slice_get list y ≡ Some c) × (c.name ≡ n)
      by (inl was) f = f was
      by (inr same) f = (k, d, step.is, same)

  module _ (distinct : AreDistinct list) where
    -- a name is known by its place
    pub known_number : (y : ℕ) (d : DefinedText) → slice_get list y ≡ Some d
        → number_of (known_names list) d.name ≡ Some y
    known_number y d is = position_from-zero p (known_names list)
        ∙ (position_first p (known_names list) 0 y no_definition (omega (arith, l, length-map list known)) here before
        ∙ ap Some (zero_more y))
      where
        p : Definition → Bool
        p k = bytes_eq d.name k.0

        l : y < length list
        l = slice_get_within list y d is

        zero_more : (k : ℕ) → 0 + k ≡ k
        zero_more k = omega arith

        name_at : (j : ℕ) → j < length list → (get_or (known_names list) j no_definition).0 ≡
            (get_or list j no_text).name
        name_at j less = ap (λ (k : Definition). k.0) (get_or-map known list j no_text no_definition less)

        here : p (get_or (known_names list) y no_definition) ≡ true
        here = same_text d.name _ (ap (λ (c : DefinedText). c.name) (sym (get_or_from_slice_get list y d no_text is))
            ∙ sym (name_at y l))

        before : (j : ℕ) → j < y → p (get_or (known_names list) j no_definition) ≡ false
        before j less = by (cases_Bool (p (get_or (known_names list) j no_definition)))
          where
            there : j < length list
            there = omega (arith, less, l)

            by : (p (get_or (known_names list) j no_definition) ≡ true)
                ⊎ (p (get_or (known_names list) j no_definition) ≡ false)
                → p (get_or (known_names list) j no_definition) ≡ false
            by (inl same) =
                let name : d.name ≡ (get_or list j no_text).name
                = (bytes_eq-Decides d.name (get_or (known_names list) j no_definition).0).0 same ∙ name_at j there in
                let one : y ≡ j = distinct y j d (get_or list j no_text) is
                (slice_get-get_or list j no_text there) name in
                absurd (omega (arith, one, less))
            by (inr other) = other

    -- an expression under what is placed is one under the known names, and what it uses is placed
    pub read_under_known : {names : List Definition} → ArePlaced list names → (text : List ℕ) (f : Expression)
        → IsExpression names text f → (e : Expression) × IsExpression (known_names list) text e
        × ((y : ℕ) (d : DefinedText) → Contains (uses_of e) y → slice_get list y ≡ Some d
        → number_of names d.name ≢ None)
    read_under_known {names} placed text f is = (
      renumbered g f,
      (is.0, is.1, alternation_known names (known_names list) g is.2 (λ n x found _. knows n x found)),
      λ y d has there. uses_placed y d (subst (λ us. Contains us y) (uses_renumbered g f) has) there,
    )
      where
        or_zero : Option ℕ → ℕ
        or_zero None = 0
        or_zero (Some y) = y

        g : ℕ → ℕ
        g x = or_zero (number_of (known_names list) (get_or names x no_definition).0)

        knows : (n : List ℕ) (x : ℕ) → number_of names n ≡ Some x → number_of (known_names list) n ≡ Some (g x)
        knows n x found =
            let there = placed_is placed n x found in
            let number : number_of (known_names list) n ≡ Some there.0
            = subst (λ m. number_of (known_names list) m ≡ Some there.0) there.3
            (known_number there.0 there.1 there.2) in
            let same : g x ≡ there.0
            = ap (λ m. or_zero (number_of (known_names list) m)) (number_is names n x no_definition found).1
            ∙ ap or_zero number in
            number ∙ ap Some (sym same)

        uses_placed : (y : ℕ) (d : DefinedText) → Contains (map g (uses_of f)) y → slice_get list y ≡ Some d
            → number_of names d.name ≢ None
        uses_placed y d (k, l, e) there missing =
            let less : k < length (uses_of f) = omega (arith, l, length-map (uses_of f) g) in
            let x = get_or (uses_of f) k 0 in
            let found = alternation_found names is.2 x (Contains-get_or (uses_of f) k 0 less) in
            let number : g x ≡ y = sym (get_or-map g (uses_of f) k 0 y less) ∙ e in
            let here = known_is found.0 y (knows found.0 x found.1 ∙ ap Some number) in
            let same : d ≡ here.0 = some_one (sym there ∙ here.1) in
            none_some (sym missing
            ∙ (ap (λ (c : DefinedText). number_of names c.name) same ∙ (ap (number_of names) here.2 ∙ found.1)))

    -- and the other way round
    pub read_under_placed : (names : List Definition) (numbers : List ℕ) (text : List ℕ) (e : Expression)
        → IsExpression (known_names list) text e
        → ((y : ℕ) (d : DefinedText) → Contains (uses_of e) y → slice_get list y ≡ Some d
        → number_of names d.name ≡ Some (number_for numbers y))
        → IsExpression names text (renumbered (number_for numbers) e)
    read_under_placed names numbers text e is placed = (
      is.0,
      is.1,
      alternation_known (known_names list) names (number_for numbers) is.2 (λ n y found has.
          let here = known_is n y found in
          subst (λ m. number_of names m ≡ Some (number_for numbers y)) here.2 (placed y here.0 has here.1)),
    )

  -- the next text to be placed is one
  pub next_one : (names : List Definition) (n m : ℕ) (d c : DefinedText) (e f : Expression)
      → IsPlacedNext list names n d e
      → IsPlacedNext list names m c f → (d ≡ c) × (e ≡ f)
  next_one names n m d c e f a b = by (cases_lt n m) (cases_lt m n)
    where
      by : (n < m) ⊎ (m ≤ n) → (m < n) ⊎ (n ≤ m) → (d ≡ c) × (e ≡ f)
      by (inl less) o = absurd (b.first n d e less a.is a.follows)
      by (inr _) (inl less) = absurd (a.first m c f less b.is b.follows)
      by (inr le) (inr ge) =
          let same : n ≡ m = omega (arith, le, ge) in
          let text : d ≡ c = some_one (sym a.is ∙ (ap (slice_get list) same ∙ b.is)) in (
            text,
            expression_one names d.text e f a.follows.is_expression
                (subst (λ (t : DefinedText). IsExpression names t.text f) (sym text) b.follows.is_expression),
          )

  -- what is placed at a place is the next behind those before
  pub placed_at : {names : List Definition} → ArePlaced list names → (i : ℕ) → i < length names → (n : ℕ) ×
      (d : DefinedText)
      × (e : Expression) × IsPlacedNext list (take i names) n d e × (get_or names i no_definition ≡ (d.name, e))
  placed_at none i l = absurd (omega (arith, l))
  placed_at (next placed n d e before step) i l = by (cases_lt i (length placed)) (λ less. placed_at before i less)
    where
      by : (i < length placed) ⊎ (length placed ≤ i)
          → (i < length placed → (m : ℕ) × (c : DefinedText) × (f : Expression) × IsPlacedNext list
          (take i placed) m c f
          × (get_or placed i no_definition ≡ (c.name, f)))
          → (m : ℕ) × (c : DefinedText) × (f : Expression) × IsPlacedNext list (take i (placed ++ (
            d.name,
            e,
          ) ∷ [])) m c f
          × (get_or (placed ++ (d.name, e) ∷ []) i no_definition ≡ (c.name, f))
      by (inl less) f =
          let there = f less in (
            there.0,
            there.1,
            there.2,
            subst (λ p. IsPlacedNext list p there.0 there.1 there.2) (sym (take-append-le i placed ((d.name, e) ∷ [])
                (omega (arith, less)))) there.3,
            get_or-append placed ((d.name, e) ∷ []) no_definition i less ∙ there.4,
          )
      by (inr more) f =
          let last : i ≡ length placed
          = omega (arith, more, l, length-append placed ((d.name, e) ∷ [])) in (
            n,
            d,
            e,
            subst (λ p. IsPlacedNext list p n d e) (sym (take-append-le i placed ((d.name, e) ∷ []) (omega (
              arith,
              last,
            ))
                ∙ take_all i placed (omega (arith, last)))) step,
            ap (λ k. get_or (placed ++ (d.name, e) ∷ []) k no_definition) last
                ∙ get_or-append_seam placed (d.name, e) [] no_definition,
          )

  -- of two lists of placed definitions the shorter is the front of the other
  pub placed_front : {p q : List Definition} → ArePlaced list p → ArePlaced list q → length p ≤ length q
      → p ≡ take (length p) q
  placed_front none b l = refl
  placed_front {q = q} (next placed n d e before step) b l
      = by (placed_front before b (omega (arith, l, length-append placed ((d.name, e) ∷ []))))
    where
      less : length placed < length q
      less = omega (arith, l, length-append placed ((d.name, e) ∷ []))

      by : placed ≡ take (length placed) q
          → placed ++ (d.name, e) ∷ [] ≡ take (length (placed ++ (d.name, e) ∷ [])) q
      by same =
          let there = placed_at b (length placed) less in
          let one = next_one placed n there.0 d there.1 e there.2 step
          (subst (λ p. IsPlacedNext list p there.0 there.1 there.2) (sym same) there.3) in
          let last : get_or q (length placed) no_definition ≡ (d.name, e)
          = there.4 ∙ ap₂ (λ (t : DefinedText) f. (t.name, f)) (sym one.0) (sym one.1) in
          let long : length (placed ++ (d.name, e) ∷ []) ≡ suc (length placed)
          = omega (arith, length-append placed ((d.name, e) ∷ [])) in
          ap₂ (λ p x. p ++ x ∷ []) same (sym last)
          ∙ (sym (take-suc q (length placed) no_definition less) ∙ ap (λ k. take k q) (sym long))

  -- nothing is left to be placed behind all of them
  nothing_next : {names : List Definition} → AreNames list names → (n : ℕ) (d : DefinedText) (e : Expression)
      → IsPlacedNext list names n d e → ⊥
  nothing_next a n d e step = a.all n d step.is step.follows.new

  -- texts are at most one list of definitions
  pub names_one : (p q : List Definition) → AreNames list p → AreNames list q → p ≡ q
  names_one p q a b = by (cases_lt (length p) (length q)) (cases_lt (length q) (length p))
    where
      shorter : (p q : List Definition) → AreNames list p → AreNames list q → length p < length q → ⊥
      shorter p q a b less =
          let there = placed_at b.placed (length p) less in
          nothing_next a there.0 there.1 there.2 (subst (λ r. IsPlacedNext list r there.0 there.1 there.2)
          (sym (placed_front a.placed b.placed (omega (arith, less)))) there.3)

      by : (length p < length q) ⊎ (length q ≤ length p) → (length q < length p) ⊎ (length p ≤ length q) → p ≡ q
      by (inl less) o = absurd (shorter p q a b less)
      by (inr _) (inl less) = absurd (shorter q p b a less)
      by (inr ge) (inr le) = placed_front a.placed b.placed le ∙ take_all (length p) q ge
