-- Texts of definitions are read, and put in order.
use Rattle.std.proofs.Common.{◌≡◌, ◌≢◌, ◌<◌, ◌≤◌, ◌⊎◌, ◌+◌, ℕ, zero, suc, List, [], ◌∷◌, ◌++◌, length, get_or, set}
use Rattle.std.proofs.Common.{map, take, inl, inr}
use Rattle.std.proofs.Common.{arith, ap, ap₂, sym, subst, refl, Some, None, ◌∙◌, length-append, length-take}
use Rattle.std.proofs.Common.{take-append-drop, drop}
use Rattle.std.specs.Prelude.{All, Contains, Vec, slice_get}
use Rattle.std.specs.Global.{Global}
use Rattle.std.specs.Option.{ForSome}
use Rattle.std.proofs.Math.ListN.{get_or-append, get_or-eq_default}
use Rattle.std.proofs.Math.Seq.{get_or-append_seam, take-suc}
use Rattle.std.proofs.lemmas.Bool.{cases_eq, cases_lt}
use Rattle.std.proofs.lemmas.List.{drop_all, get_or_default, get_or-set_other, get_or-set_same, get_or-map}
use Rattle.std.proofs.lemmas.List.{get_or-take, length-map, length-set, map-append, take-map, take_all}
use Rattle.std.proofs.lemmas.List.{take-append-le}
use Rattle.std.proofs.lemmas.List.Elements.{All-contains, Contains-append_left, Contains-get_or, Contains-push}
use Rattle.std.proofs.lemmas.List.Elements.{Contains-push_cases}
use Rattle.std.proofs.lemmas.Option.{get_or_from_slice_get, slice_get-get_or, slice_get_within}
use Rattle.ly_ere.specs.Definitions.{AreDistinct, AreLightNames, AreNames, ArePlaced, AreRefused, AreSpelled}
use Rattle.ly_ere.specs.Definitions.{CanFollow, HasText}
use Rattle.ly_ere.specs.Definitions.{IsHeavyDefinition}
use Rattle.ly_ere.specs.Definitions.{IsPlacedNext, DefinedText, named_text, named_texts, next}
use Rattle.ly_ere.specs.declared.definitions.NamedText.{NamedText}
use Rattle.ly_ere.specs.declared.definitions.Refusal.{Refusal}
use Rattle.ly_ere.specs.Definitions as definitions
use Rattle.ly_ere.specs.Expression.{Expression, empty}
use Rattle.ly_ere.specs.Names.{Definition, defined, number_of}
use Rattle.ly_ere.specs.Patterns.{IsExpression}
use Rattle.ly_ere.specs.Private.Definitions.{AreRead, ArePlacing, IsTextRefusal, expression_at}
use Rattle.ly_ere.specs.Definitions.{IsNoText, known_names}
use Rattle.ly_ere.specs.Private.Definitions.{text_uses}
use Rattle.ly_ere.specs.Private.Front.{IsFrontExpression}
use Rattle.ly_ere.specs.Private.Turns.{AreInTurn, AreThere, IsLastTurn, HasAllTaken, next as in_turn, none as no_turn}
use Rattle.ly_ere.specs.Private.Turns.{uses_at}
use Rattle.ly_ere.specs.Private.Uses.{number_for, renumbered, uses_of}
use Rattle.ly_ere.specs.Weight.{named_weight, weight_of}
use Rattle.ly_ere.specs.declared.definitions.DefinitionTexts.{DefinitionTexts}
use Rattle.ly_ere.specs.Faults.{IsAtMost, ere_kind}
use Rattle.ly_ere.specs.declared.fault.EreFault.{EreFault}
use Rattle.ly_ere.specs.declared.fault.EreFault.TheVariants.{OutOfMemory, Refused}
use Rattle.ly_ere.specs.declared.fault.EreFaultKind.TheVariants.{NameCycle, TooHeavy}
use Rattle.ly_ere.proofs.NumberedLemmas.{alternation_found}
use Rattle.ly_ere.proofs.PatternLaws.{expression_one, front_length_one}
use Rattle.ly_ere.proofs.PlaceLemmas.{cases_option, none_some, some_one, known, known_is, next_one, no_definition}
use Rattle.ly_ere.proofs.PlaceLemmas.{no_text, number_before, number_cases}
use Rattle.ly_ere.proofs.WeightLemmas.{weight_at_place, weight_of_earlier, weight_of_last}
use Rattle.ly_ere.proofs.PlaceLemmas.{number_front, number_is, number_new, placed_at, placed_front, read_under_known}
use Rattle.ly_ere.proofs.PlaceLemmas.{read_under_placed}

module _ (names : List Definition) (text : List ℕ) where
  -- a whole text as the front of a line
  whole_front : (e : Expression) → IsExpression names text e → IsFrontExpression names text e (length text)
  whole_front e is = record {
    within = omega arith;
    is_expression = rw (take_all (length text) text (omega arith)) is;
    follows = rw (drop_all (length text) text (omega arith)) tt;
  }

  -- no expression stands at the front
  pub no_front_text : ((e : Expression) (n : ℕ) → IsFrontExpression names text e n → ⊥) → IsNoText names text
  no_front_text no_one e is = no_one e (length text) (whole_front e is)

  -- more stands behind that at the front
  pub text_behind : (f : Expression) (n : ℕ) → IsFrontExpression names text f n → n < length text → IsNoText names text
  text_behind f n front less e is
      = omega (arith, less, front_length_one names text f e n (length text) front (whole_front e is))

-- the lists of one more
lists_push : (us : List (Vec ℕ Global)) (v : Vec ℕ Global) → map (λ (v : Vec ℕ Global). v.items) (us ++ v ∷ [])
    ≡ map (λ (v : Vec ℕ Global). v.items) us ++ v.items ∷ []
lists_push us v = map-append (λ (v : Vec ℕ Global). v.items) us (v ∷ [])

-- what stands at a place of a list with one more
last_cases : (list : List DefinedText) (d : DefinedText) (n : ℕ) (c : DefinedText) → slice_get (list ++ d ∷ []) n
    ≡ Some c
    → ((n < length list) × (slice_get list n ≡ Some c)) ⊎ ((n ≡ length list) × (d ≡ c))
last_cases list d n c is = by (cases_lt n (length list))
  where
    l : n < length (list ++ d ∷ [])
    l = slice_get_within (list ++ d ∷ []) n c is

    at : get_or (list ++ d ∷ []) n no_text ≡ c
    at = get_or_from_slice_get (list ++ d ∷ []) n c no_text is

    by : (n < length list) ⊎ (length list ≤ n) → ((n < length list) × (slice_get list n ≡ Some c))
        ⊎ ((n ≡ length list) × (d ≡ c))
    by (inl less) = inl (
      less,
      slice_get-get_or list n no_text less
          ∙ ap Some (sym (get_or-append list (d ∷ []) no_text n less) ∙ at),
    )
    by (inr more) =
        let last : n ≡ length list = omega (arith, more, l, length-append list (d ∷ [])) in
        inr (
          last,
          sym (get_or-append_seam list d [] no_text) ∙ (ap (λ k. get_or (list ++ d ∷ []) k no_text) (sym last)
              ∙ at),
        )

module _ (known : List Definition) (list : List DefinedText) (d : DefinedText) (t u : DefinitionTexts)
    (a : AreRead known list t)
    (v : Vec ℕ Global) (uses : u.uses.items ≡ t.uses.items ++ v ∷ []) where
  long : length (text_uses t) ≡ length list
  long = length-map t.uses.items (λ (v : Vec ℕ Global). v.items) ∙ a.counted

  all_uses : text_uses u ≡ text_uses t ++ v.items ∷ []
  all_uses = ap (map (λ (v : Vec ℕ Global). v.items)) uses ∙ lists_push t.uses.items v

  counted : length u.uses.items ≡ length (list ++ d ∷ [])
  counted = omega (arith, ap length uses, length-append t.uses.items (v ∷ []), a.counted, length-append list (d ∷ []))

  past : (n : ℕ) → length list < n → uses_at (text_uses t ++ v.items ∷ []) n ≡ []
  past n more = get_or-eq_default (text_uses t ++ v.items ∷ []) []
      (omega (arith, more, long, length-append (text_uses t) (v.items ∷ [])))

  none_below : (us : List ℕ) → us ≡ [] → All (λ x. x < length known) us
  none_below us is i e l = absurd (omega (arith, l, ap length is))

  there : All (λ x. x < length known) v.items → (n : ℕ) → All (λ x. x < length known) (uses_at (text_uses u) n)
  there last n = subst (λ us. All (λ x. x < length known) (uses_at us n)) (sym all_uses)
      (by (cases_lt n (length list)) (cases_lt (length list) n))
    where
      by : (n < length list) ⊎ (length list ≤ n) → (length list < n) ⊎ (n ≤ length list)
          → All (λ x. x < length known) (uses_at (text_uses t ++ v.items ∷ []) n)
      by (inl less) o = subst (All (λ x. x < length known))
          (sym (get_or-append (text_uses t) (v.items ∷ []) [] n (omega (arith, long, less)))) (a.there n)
      by (inr _) (inl beyond) = none_below _ (past n beyond)
      by (inr more) (inr le) = subst (All (λ x. x < length known))
          (sym (ap (uses_at (text_uses t ++ v.items ∷ [])) (same more le)
          ∙ get_or-append_seam (text_uses t) v.items [] [])) last
        where
          same : length list ≤ n → n ≤ length list → n ≡ length (text_uses t)
          same more le = omega (arith, more, le, long)

  used : ((e : Expression) → IsExpression known d.text e → v.items ≡ uses_of e) → (n : ℕ) (c : DefinedText)
      (e : Expression)
      → slice_get (list ++ d ∷ []) n ≡ Some c → IsExpression known c.text e → uses_at (text_uses u) n ≡ uses_of e
  used last n c e is text = by (last_cases list d n c is)
    where
      by : ((n < length list) × (slice_get list n ≡ Some c)) ⊎ ((n ≡ length list) × (d ≡ c))
          → uses_at (text_uses u) n ≡ uses_of e
      by (inl (less, was)) = ap (λ us. uses_at us n) all_uses
          ∙ (get_or-append (text_uses t) (v.items ∷ []) [] n (omega (arith, long, less)) ∙ a.uses n c e was text)
      by (inr (end, same)) = ap (λ us. uses_at us n) all_uses
          ∙ (ap (uses_at (text_uses t ++ v.items ∷ [])) (end ∙ sym long) ∙ (get_or-append_seam
          (text_uses t) v.items [] []
          ∙ last e (subst (λ (k : DefinedText). IsExpression known k.text e) (sym same) text)))

  -- each is an expression, or uses nothing
  each_more : HasText known d.text ⊎ (v.items ≡ []) → (n : ℕ) (c : DefinedText)
      → slice_get (list ++ d ∷ []) n ≡ Some c → HasText known c.text ⊎ (uses_at (text_uses u) n ≡ [])
  each_more last n c is = by (last_cases list d n c is)
    where
      here : n < length list → uses_at (text_uses u) n ≡ uses_at (text_uses t) n
      here less = ap (λ us. uses_at us n) all_uses
          ∙ get_or-append (text_uses t) (v.items ∷ []) [] n (omega (arith, long, less))

      before : n < length list → HasText known c.text ⊎ (uses_at (text_uses t) n ≡ [])
          → HasText known c.text ⊎ (uses_at (text_uses u) n ≡ [])
      before less (inl e) = inl e
      before less (inr none) = inr (here less ∙ none)

      at_end : n ≡ length list → d ≡ c → HasText known d.text ⊎ (v.items ≡ [])
          → HasText known c.text ⊎ (uses_at (text_uses u) n ≡ [])
      at_end end same (inl e) = inl (subst (λ (k : DefinedText). HasText known k.text) same e)
      at_end end same (inr none) = inr (ap (λ us. uses_at us n) all_uses
          ∙ (ap (uses_at (text_uses t ++ v.items ∷ [])) (end ∙ sym long)
          ∙ (get_or-append_seam (text_uses t) v.items [] [] ∙ none)))

      by : ((n < length list) × (slice_get list n ≡ Some c)) ⊎ ((n ≡ length list) × (d ≡ c))
          → HasText known c.text ⊎ (uses_at (text_uses u) n ≡ [])
      by (inl (less, was)) = before less (a.each n c was)
      by (inr (end, same)) = at_end end same last

  -- a refusal stays one
  refusal_later : (r : Refusal) → IsTextRefusal known list r → IsTextRefusal known (list ++ d ∷ []) r
  refusal_later r is =
      let l = slice_get_within list r.place is.text is.is in record {
        text = is.text;
        is = slice_get-get_or (list ++ d ∷ []) r.place no_text (omega (arith, l, length-append list (d ∷ [])))
            ∙ ap Some (get_or-append list (d ∷ []) no_text r.place l
            ∙ get_or_from_slice_get list r.place is.text no_text is.is);
        none = is.none;
        memory = is.memory;
        weight = is.weight;
        cycle = is.cycle;
        at = is.at;
      }

  pub refusals_later : (r : Refusal) → t.refusal ≡ Some r → IsTextRefusal known (list ++ d ∷ []) r
  refusals_later r is = refusal_later r (a.refusal r is)

  -- one more that is an expression
  pub read_more : (re : Expression) → IsExpression known d.text re → v.items ≡ uses_of re
      → u.expressions.items ≡ t.expressions.items ++ re ∷ [] → u.refusal ≡ t.refusal
      → All (λ x. x < length known) (uses_of re) → AreRead known (list ++ d ∷ []) u
  read_more re found items more same below = record {
    counted = counted;
    there = there (subst (All (λ x. x < length known)) (sym items) below);
    uses = used (λ e text. items ∙ ap uses_of (expression_one known d.text re e found text));
    each = each_more (inl (re, found));
    whole = λ none. omega (
      arith,
      ap length more,
      length-append t.expressions.items (re ∷ []),
      a.whole (sym same ∙ none),
      length-append list (d ∷ []),
    );
    expressions = λ none n c is. by n c (sym same ∙ none) (last_cases list d n c is);
    refusal = λ r is. refusals_later r (sym same ∙ is);
  }
    where
      by : (n : ℕ) (c : DefinedText) → t.refusal ≡ None → ((n < length list) × (slice_get list n ≡ Some c))
          ⊎ ((n ≡ length list) × (d ≡ c)) → IsExpression known c.text (expression_at u n)
      by n c none (inl (less, was)) = subst (IsExpression known c.text) (sym (ap (λ es. get_or es n empty) more
          ∙ get_or-append t.expressions.items (re ∷ []) empty n (omega (arith, a.whole none, less))))
          (a.expressions none n c was)
      by n c none (inr (end, is)) = subst (IsExpression known c.text) (sym (ap (λ es. get_or es n empty) more
          ∙ (ap (λ k. get_or (t.expressions.items ++ re ∷ []) k empty) (end ∙ sym (a.whole none))
          ∙ get_or-append_seam t.expressions.items re [] empty)))
          (subst (λ (k : DefinedText). IsExpression known k.text re) is found)

  -- one more that is none
  pub read_none : IsNoText known d.text → v.items ≡ [] → u.refusal ≢ None
      → ForSome u.refusal (IsTextRefusal known (list ++ d ∷ [])) → AreRead known (list ++ d ∷ []) u
  read_none no_text items some refusal = record {
    counted = counted;
    there = there (subst (All (λ x. x < length known)) (sym items) (λ i e l. absurd (omega (arith, l))));
    uses = used (λ e text. absurd (no_text e text));
    each = each_more (inr items);
    whole = λ none. absurd (some none);
    expressions = λ none. absurd (some none);
    refusal = refusal;
  }

-- what an expression under names uses is below their number
pub uses_below : (names : List Definition) (text : List ℕ) (e : Expression) → IsExpression names text e
    → All (λ x. x < length names) (uses_of e)
uses_below names text e is i d l =
    let found = alternation_found names is.2 (get_or (uses_of e) i d) (Contains-get_or (uses_of e) i d l) in
    (number_is names found.0 (get_or (uses_of e) i d) no_definition found.1).0

-- texts so far, and one more
pub texts_more : (list : List NamedText) (i : ℕ) (d : NamedText) → i < length list
    → named_texts (take (i + 1) list) ≡ named_texts (take i list) ++ named_text (get_or list i d) ∷ []
texts_more list i d l = ap (map named_text) (ap (λ k. take k list) (one_more i) ∙ take-suc list i d l)
    ∙ map-append named_text (take i list) (get_or list i d ∷ [])
  where
    one_more : (i : ℕ) → i + 1 ≡ suc i
    one_more i = omega arith

-- a name isn't known before its place
pub name_is_new : (list : List DefinedText) → AreDistinct list → (i : ℕ) (d : DefinedText) → slice_get list i ≡ Some d
    → number_of (known_names (take i list)) d.name ≡ None
name_is_new list distinct i d is = by (cases_option (number_of (known_names (take i list)) d.name))
  where
    by : ((x : ℕ) × (number_of (known_names (take i list)) d.name ≡ Some x))
        ⊎ (number_of (known_names (take i list)) d.name ≡ None)
        → number_of (known_names (take i list)) d.name ≡ None
    by (inr missing) = missing
    by (inl (x, found)) =
        let here = known_is (take i list) d.name x found in
        let l = slice_get_within (take i list) x here.0 here.1 in
        let less : x < i = omega (arith, l, length-take i list) in
        let within : x < length list = omega (arith, less, slice_get_within list i d is) in
        let there : slice_get list x ≡ Some here.0
        = slice_get-get_or list x no_text within
        ∙ ap Some (sym (get_or-take i list x no_text less)
        ∙ get_or_from_slice_get (take i list) x here.0 no_text here.1) in
        absurd (omega (arith, less, distinct x i here.0 d there is here.2))

pub texts_front : (list : List NamedText) (i : ℕ) → named_texts (take i list) ≡ take i (named_texts list)
texts_front list i = sym (take-map named_text i list)

pub text_at : (list : List NamedText) (i : ℕ) (e : NamedText) → i < length list
    → slice_get (named_texts list) i ≡ Some (named_text (get_or list i e))
text_at list i e l = slice_get-get_or (named_texts list) i no_text (omega (arith, l, length-map list named_text))
    ∙ ap Some (get_or-map named_text list i e no_text l)

-- what stands past the end of such a list
abbrev pub no_entry : NamedText
no_entry = record { name = record { ref_ptr = (0, 0); now = [] }; text = record { ref_ptr = (0, 0); now = [] } }

-- one more is known
pub known_more : (names : List Definition) (list : List NamedText) (i : ℕ) (d : NamedText) → i < length list
    → names ≡ known_names (named_texts (take i list))
    → names ++ known (named_text (get_or list i d)) ∷ [] ≡ known_names (named_texts (take (i + 1) list))
known_more names list i d l is = ap (λ ns. ns ++ known (named_text (get_or list i d)) ∷ []) is
    ∙ (sym (map-append known (named_texts (take i list)) (named_text (get_or list i d) ∷ []))
    ∙ ap known_names (sym (texts_more list i d l)))

-- a number is in a list or isn't
has_number : (ns : List ℕ) (n : ℕ) → Contains ns n ⊎ (Contains ns n → ⊥)
has_number [] n = inr (λ h. omega (arith, h.1))
has_number (m ∷ ns) n = by (cases_eq m n) (has_number ns n)
  where
    later : Contains ns n → Contains (m ∷ ns) n
    later (k, l, e) = (suc k, omega (arith, l), e)

    neither : m ≢ n → (Contains ns n → ⊥) → Contains (m ∷ ns) n → ⊥
    neither other never (zero, l, e) = other e
    neither other never (suc k, l, e) = never (k, omega (arith, l), e)

    by : (m ≡ n) ⊎ (m ≡ n → ⊥) → Contains ns n ⊎ (Contains ns n → ⊥) → Contains (m ∷ ns) n ⊎ (Contains (m ∷ ns) n → ⊥)
    by (inl same) o = inl (zero, omega arith, same)
    by (inr other) (inl there) = inl (later there)
    by (inr other) (inr never) = inr (neither other never)

-- one that isn't missing is there
among : (ns : List ℕ) (n : ℕ) → ((Contains ns n → ⊥) → ⊥) → Contains ns n
among ns n never = by (has_number ns n)
  where
    by : Contains ns n ⊎ (Contains ns n → ⊥) → Contains ns n
    by (inl is) = is
    by (inr missing) = absurd (never missing)

-- what stands at a place of an order
pub turn_at : (uses : List (List ℕ)) (order : List ℕ) → AreInTurn uses order → (i : ℕ) → i < length order
    → (get_or order i 0 < length uses) × (Contains (take i order) (get_or order i 0) → ⊥)
    × HasAllTaken uses (take i order) (get_or order i 0)
    × ((k : ℕ) → k < get_or order i 0 → (Contains (take i order) k → ⊥) → HasAllTaken uses (take i order) k → ⊥)
turn_at uses order no_turn i l = absurd (omega (arith, l))
turn_at uses order (in_turn before n turns less apart ready first) i l
    = by (cases_lt i (length before)) (λ earlier. turn_at uses before turns i earlier)
  where
    Turn : List ℕ → ℕ → Type 0
    Turn front m = (m < length uses) × (Contains front m → ⊥) × HasAllTaken uses front m
        × ((k : ℕ) → k < m → (Contains front k → ⊥) → HasAllTaken uses front k → ⊥)

    by : (i < length before) ⊎ (length before ≤ i) → (i < length before → Turn (take i before) (get_or before i 0))
        → Turn (take i (before ++ n ∷ [])) (get_or (before ++ n ∷ []) i 0)
    by (inl earlier) f = subst (λ front. Turn front (get_or (before ++ n ∷ []) i 0))
        (sym (take-append-le i before (n ∷ []) (omega (arith, earlier))))
        (subst (Turn (take i before)) (sym (get_or-append before (n ∷ []) 0 i earlier)) (f earlier))
    by (inr more) f =
        let last : i ≡ length before = omega (arith, more, l, length-append before (n ∷ [])) in
        subst (λ front. Turn front (get_or (before ++ n ∷ []) i 0))
        (sym (take-append-le i before (n ∷ []) (omega (arith, last))
        ∙ take_all i before (omega (arith, last))))
        (subst (Turn before) (sym (ap (λ k. get_or (before ++ n ∷ []) k 0) last ∙ get_or-append_seam before n [] 0))
        (less, apart, ready, first))

module _ (list : List DefinedText) (distinct : AreDistinct list) (t : DefinitionTexts) (a : AreRead
    (known_names list) list t) where
  -- what an expression of a text uses stands in the list
  used_there : (n y : ℕ) → Contains (uses_at (text_uses t) n) y → (d : DefinedText) × (slice_get list y ≡ Some d)
  used_there n y has =
      let l : y < length list
      = omega (
        arith,
        All-contains (λ x. x < length (known_names list)) (uses_at (text_uses t) n) y (a.there n) has,
        length-map list known,
      ) in
      (get_or list y no_text, slice_get-get_or list y no_text l)

  -- a text that can be placed uses only what is
  pub ready_text : {names : List Definition} → ArePlaced list names → (n : ℕ) (d : DefinedText) (f : Expression)
      → slice_get list n ≡ Some d → IsExpression names d.text f → (y : ℕ) (c : DefinedText)
      → Contains (uses_at (text_uses t) n) y → slice_get list y ≡ Some c → number_of names c.name ≢ None
  ready_text placed n d f is text y c has there =
      let read = read_under_known list distinct placed d.text f text in
      read.2 y c (subst (λ us. Contains us y) (a.uses n d read.0 is read.1) has) there

  module _ (order : List ℕ) (names : List Definition) (numbers : List ℕ) (p : ArePlacing list order names numbers) where
    -- the next in turn is the next to be placed
    pub turn_is_next : (n : ℕ) (d : DefinedText) → slice_get list n ≡ Some d → t.refusal ≡ None → (Contains order n → ⊥)
        → HasAllTaken (text_uses t) order n
        → ((k : ℕ) → k < n → (Contains order k → ⊥) → HasAllTaken (text_uses t) order k → ⊥)
        → IsPlacedNext list names n d (renumbered (number_for numbers) (expression_at t n))
    turn_is_next n d is none apart ready first = record {
      is = is;
      follows = record {
        new = missing n d is apart;
        is_expression = read_under_placed list distinct names numbers d.text (expression_at t n) text numbered;
      };
      first = λ k c f less there can. first k less (unplaced k c there can.new) (ready_before k c f there can);
    }
      where
        text : IsExpression (known_names list) d.text (expression_at t n)
        text = a.expressions none n d is

        missing : (n : ℕ) (d : DefinedText) → slice_get list n ≡ Some d → (Contains order n → ⊥)
            → number_of names d.name ≡ None
        missing n d is apart = by (cases_option (number_of names d.name))
          where
            by : ((x : ℕ) × (number_of names d.name ≡ Some x)) ⊎ (number_of names d.name ≡ None)
                → number_of names d.name ≡ None
            by (inl (x, found)) = absurd (apart (p.only n d is (λ e. none_some (sym e ∙ found))))
            by (inr e) = e

        numbered : (y : ℕ) (c : DefinedText) → Contains (uses_of (expression_at t n)) y → slice_get list y ≡ Some c
            → number_of names c.name ≡ Some (number_for numbers y)
        numbered y c has there =
            let used = subst (λ us. Contains us y) (sym (a.uses n d (expression_at t n) is text)) has in
            p.found y c there (All-contains (Contains order) (uses_at (text_uses t) n) y ready used)
            ∙ ap Some (get_or_default numbers y 0 y (omega (arith, p.numbered, slice_get_within list y c there)))

        unplaced : (k : ℕ) (c : DefinedText) → slice_get list k ≡ Some c → number_of names c.name ≡ None
            → Contains order k
            → ⊥
        unplaced k c there new has = none_some (sym new ∙ p.found k c there has)

        ready_before : (k : ℕ) (c : DefinedText) (f : Expression) → slice_get list k ≡ Some c → CanFollow names c f
            → HasAllTaken (text_uses t) order k
        ready_before k c f there can i e l =
            let has = Contains-get_or (uses_at (text_uses t) k) i e l in
            let used = used_there k (get_or (uses_at (text_uses t) k) i e) has in
            p.only _ used.0 used.1 (ready_text p.placed k c f there can.is_expression _ used.0 has used.1)

    -- it is placed
    pub placed_more : (n : ℕ) (d : DefinedText) (e : Expression) → IsPlacedNext list names n d e →
        (Contains order n → ⊥)
        → ArePlacing list (order ++ n ∷ []) (names ++ (d.name, e) ∷ []) (set numbers n (length order))
    placed_more n d e step apart = record {
      placed = next names n d e p.placed step;
      counted = omega (arith, p.counted, length-append names ((d.name, e) ∷ []), length-append order (n ∷ []));
      numbered = length-set numbers n (length order) ∙ p.numbered;
      found = λ m c is has. found_new m c is (Contains-push_cases order n m has) (cases_eq m n);
      only = λ m c is some. only_new m c is (cases_option (number_of (names ++ (d.name, e) ∷ []) c.name)) some;
    }
      where
        within : n < length numbers
        within = omega (arith, p.numbered, slice_get_within list n d step.is)

        found_new : (m : ℕ) (c : DefinedText) → slice_get list m ≡ Some c → Contains order m ⊎ (n ≡ m) → (m ≡ n) ⊎
            (m ≡ n → ⊥)
            → number_of (names ++ (d.name, e) ∷ []) c.name ≡ Some (get_or (set numbers n (length order)) m 0)
        found_new m c is o (inl same) =
            let one : d ≡ c = some_one (sym step.is ∙ (ap (slice_get list) (sym same) ∙ is)) in
            ap (λ (k : DefinedText). number_of (names ++ (d.name, e) ∷ []) k.name) (sym one)
            ∙ (number_new names d.name e step.follows.new
            ∙ (ap Some p.counted ∙ ap Some (sym (ap (λ k. get_or (set numbers n (length order)) k 0) same
            ∙ get_or-set_same numbers n (length order) 0 within))))
        found_new m c is (inl before) (inr other)
            = number_before names d.name e c.name (get_or numbers m 0) (p.found m c is before)
            ∙ ap Some (sym (get_or-set_other numbers n m (length order) 0 other))
        found_new m c is (inr same) (inr other) = absurd (other (sym same))

        only_new : (m : ℕ) (c : DefinedText) → slice_get list m ≡ Some c
            → ((x : ℕ) × (number_of (names ++ (d.name, e) ∷ []) c.name ≡ Some x))
            ⊎ (number_of (names ++ (d.name, e) ∷ []) c.name ≡ None)
            → number_of (names ++ (d.name, e) ∷ []) c.name ≢ None → Contains (order ++ n ∷ []) m
        only_new m c is (inr missing) some = absurd (some missing)
        only_new m c is (inl (x, found)) some = by (number_cases names d.name e c.name x found)
          where
            by : (number_of names c.name ≡ Some x) ⊎ (d.name ≡ c.name) → Contains (order ++ n ∷ []) m
            by (inl before) = Contains-append_left order (n ∷ []) m
                (p.only m c is (λ missing. none_some (sym missing ∙ before)))
            by (inr same) = subst (Contains (order ++ n ∷ [])) (distinct n m d c step.is is same)
                (Contains-push order n)

  -- whatever is placed stands in an order that can't go on
  pub placed_in_order : (order : List ℕ) → IsLastTurn (text_uses t) order → {names : List Definition}
      → ArePlaced list names
      → (n : ℕ) (d : DefinedText) → slice_get list n ≡ Some d → number_of names d.name ≢ None → (Contains order n
      → ⊥) → ⊥
  placed_in_order order last definitions.none n d is some apart = some refl
  placed_in_order order last (next placed k c e before step) n d is some apart
      = by (cases_option (number_of (placed ++ (c.name, e) ∷ []) d.name))
      (λ there. placed_in_order order last before n d is there apart)
      (λ y b here there. placed_in_order order last before y b here there)
    where
      at_step : ((y : ℕ) (b : DefinedText) → slice_get list y ≡ Some b → number_of placed b.name ≢ None
          → (Contains order y → ⊥) → ⊥) → n ≡ k → ⊥
      at_step earlier same = last n (omega (
        arith,
        slice_get_within list n d is,
        length-map t.uses.items (λ
            (v : Vec ℕ Global). v.items),
        a.counted,
      )) apart ready
        where
          text : IsExpression placed d.text e
          text = subst (λ (b : DefinedText). IsExpression placed b.text e)
              (some_one (sym step.is ∙ (ap (slice_get list) (sym same) ∙ is))) step.follows.is_expression

          ready : HasAllTaken (text_uses t) order n
          ready i z l =
              let has = Contains-get_or (uses_at (text_uses t) n) i z l in
              let used = used_there n (get_or (uses_at (text_uses t) n) i z) has in
              among order (get_or (uses_at (text_uses t) n) i z)
              (earlier _ used.0 used.1 (ready_text before n d e is text _ used.0 has used.1))

      by : ((x : ℕ) × (number_of (placed ++ (c.name, e) ∷ []) d.name ≡ Some x))
          ⊎ (number_of (placed ++ (c.name, e) ∷ []) d.name ≡ None)
          → (number_of placed d.name ≢ None → ⊥)
          → ((y : ℕ) (b : DefinedText) → slice_get list y ≡ Some b → number_of placed b.name ≢ None
          → (Contains order y → ⊥) → ⊥) → ⊥
      by (inr missing) now earlier = some missing
      by (inl (x, found)) now earlier = go (number_cases placed c.name e d.name x found)
        where
          go : (number_of placed d.name ≡ Some x) ⊎ (c.name ≡ d.name) → ⊥
          go (inl was) = now (λ missing. none_some (sym missing ∙ was))
          go (inr same) = at_step earlier (distinct n k d c is step.is (sym same))

-- one more that is light
pub light_more : (most : ℕ) (names : List Definition) (m : List ℕ) (e : Expression) → AreLightNames most names
    → weight_of (defined names) e ≤ most → AreLightNames most (names ++ (m, e) ∷ [])
light_more most names m e light le x l = by (cases_lt x (length names))
  where
    many : length (defined names) ≡ length names
    many = length-map names (λ (d : Definition). d.1)

    long : length (names ++ (m, e) ∷ []) ≡ suc (length (defined names))
    long = omega (arith, length-append names ((m, e) ∷ []), many)

    more : defined (names ++ (m, e) ∷ []) ≡ defined names ++ e ∷ []
    more = map-append (λ (d : Definition). d.1) names ((m, e) ∷ [])

    at_end : (P : ℕ → Type 0) {w : ℕ} → w ≡ named_weight (defined names ++ e ∷ []) (suc (length (defined names))) x
        → P w → P (named_weight (defined (names ++ (m, e) ∷ [])) (length (names ++ (m, e) ∷ [])) x)
    at_end P is h = subst P (is ∙ sym (ap₂ (λ ns k. named_weight ns k x) more long)) h

    by : (x < length names) ⊎ (length names ≤ x)
        → named_weight (defined (names ++ (m, e) ∷ [])) (length (names ++ (m, e) ∷ [])) x ≤ most
    by (inl less) = at_end (λ w. w ≤ most) (sym (weight_of_earlier (defined names) e x (omega (arith, many, less))))
        (subst (λ k. named_weight (defined names) k x ≤ most) (sym many) (light x less))
    by (inr ge) =
        let last : x ≡ length (defined names)
        = omega (arith, ge, l, many, length-append names ((m, e) ∷ [])) in
        at_end (λ w. w ≤ most) (sym (ap (named_weight (defined names ++ e ∷ []) (suc (length (defined names)))) last
        ∙ weight_of_last (defined names) e)) le

-- where texts are definitions, one that is heavy stays heavy
pub heavy_there : (most : ℕ) (list : List DefinedText) (placed names : List Definition) (n : ℕ) (d : DefinedText)
    (e : Expression)
    → ArePlaced list placed → IsPlacedNext list placed n d e → most < weight_of (defined placed) e → AreNames list names
    → AreLightNames most names → ⊥
heavy_there most list placed names n d e before step heavy all light = by (cases_lt (length placed) (length names))
  where
    missing : names ≡ take (length names) placed → ((x : ℕ) × (number_of names d.name ≡ Some x))
        ⊎ (number_of names d.name ≡ None) → ⊥
    missing front (inr never) = all.all n d step.is never
    missing front (inl (x, found)) = none_some (sym step.follows.new
        ∙ (ap (λ p. number_of p d.name) (sym (take-append-drop (length names) placed))
        ∙ number_front (take (length names) placed) (drop (length names) placed) d.name x
        (ap (λ p. number_of p d.name) (sym front) ∙ found)))

    by : (length placed < length names) ⊎ (length names ≤ length placed) → ⊥
    by (inr le) = missing (placed_front list all.placed before le) (cases_option (number_of names d.name))
    by (inl less) =
        let front = placed_front list before all.placed (omega (arith, less)) in
        let there = placed_at list all.placed (length placed) less in
        let one = next_one list placed n there.0 d there.1 e there.2 step
        (subst (λ p. IsPlacedNext list p there.0 there.1 there.2) (sym front) there.3) in
        let last : get_or (defined names) (length placed) empty ≡ e
        = get_or-map (λ (k : Definition). k.1) names (length placed) no_definition empty less
        ∙ (ap (λ (k : Definition). k.1) there.4 ∙ sym one.1) in
        let start : take (length placed) (defined names) ≡ defined placed
        = take-map (λ (k : Definition). k.1) (length placed) names ∙ ap defined (sym front) in
        let weight : named_weight (defined names) (length (defined names)) (length placed) ≡ weight_of
        (defined placed) e
        = weight_at_place (defined names) (length placed)
        (omega (arith, less, length-map names (λ (k : Definition). k.1)))
        ∙ ap₂ weight_of start last in
        let le = light (length placed) less in
        omega (
          arith,
          heavy,
          weight,
          le,
          ap (λ k. named_weight (defined names) k (length placed))
              (length-map names (λ (k : Definition). k.1)),
        )

-- nothing is placed
pub placing_none : (list : List DefinedText) (numbers : List ℕ) → length numbers ≡ length list
    → ArePlacing list [] [] numbers
placing_none list numbers long = record {
  placed = definitions.none;
  counted = refl;
  numbered = long;
  found = λ n d is has. absurd (omega (arith, has.1));
  only = λ n d is some. absurd (some refl);
}

module _ (codes : List NamedText) (distinct : AreDistinct (named_texts codes)) (t : DefinitionTexts)
    (a : AreRead (known_names (named_texts codes)) (named_texts codes) t) (whole : t.refusal ≡ None) (order : List ℕ)
    (turns : AreInTurn (text_uses t) order) (i : ℕ) (l : i < length order) where
  -- the thing in turn is a text
  pub place_there : get_or order i 0 < length codes
  place_there = omega (
    arith,
    (turn_at (text_uses t) order turns i l).0,
    length-map t.uses.items (λ (v : Vec ℕ Global). v.items),
    a.counted,
    length-map codes named_text,
  )

  module _ (names : List Definition) (numbers : List ℕ) (p : ArePlacing (named_texts codes)
      (take i order) names numbers)
    where
      -- it is the next to be placed
      pub placed_next : IsPlacedNext (named_texts codes) names (get_or order i 0) (named_text (get_or codes
          (get_or order i 0) no_entry))
          (renumbered (number_for numbers) (expression_at t (get_or order i 0)))
      placed_next =
          let turn = turn_at (text_uses t) order turns i l in
          turn_is_next (named_texts codes) distinct t a (take i order) names numbers p (get_or order i 0) _
          (text_at codes (get_or order i 0) no_entry place_there) whole turn.1 turn.2 turn.3

      -- and then it is placed
      pub placed_step : ArePlacing (named_texts codes) (take (i + 1) order)
          (names ++ (
            (named_text (get_or codes (get_or order i 0) no_entry)).name,
            renumbered (number_for numbers) (expression_at t (get_or order i 0)),
          ) ∷ [])
          (set numbers (get_or order i 0) i)
      placed_step =
          let turn = turn_at (text_uses t) order turns i l in
          let more : take (i + 1) order ≡ take i order ++ get_or order i 0 ∷ []
          = ap (λ k. take k order) (one_more i) ∙ take-suc order i 0 l in
          let many : length (take i order) ≡ i = omega (arith, length-take i order, l) in
          let d = named_text (get_or codes (get_or order i 0) no_entry) in
          let e = renumbered (number_for numbers) (expression_at t (get_or order i 0)) in
          let more_names : List Definition = names ++ (d.name, e) ∷ [] in
          subst (λ o. ArePlacing (named_texts codes) o more_names (set numbers (get_or order i 0) i)) (sym more)
          (subst (λ k. ArePlacing (named_texts codes) (take i order ++ get_or order i 0 ∷ []) more_names
          (set numbers (get_or order i 0) k)) many
          (placed_more (named_texts codes) distinct t a (take i order) names numbers p
          (get_or order i 0) d e placed_next
          turn.1))
        where
          one_more : (i : ℕ) → i + 1 ≡ suc i
          one_more i = omega arith

-- all are placed
pub placed_all : (list : List DefinedText) (order : List ℕ) (names : List Definition) (numbers : List ℕ)
    → ArePlacing list order names numbers → ((n : ℕ) → n < length list → Contains order n) → AreNames list names
placed_all list order names numbers p all = record {
  placed = p.placed;
  all = λ n d is missing. none_some (sym missing ∙ p.found n d is (all n (slice_get_within list n d is)));
}

-- the first byte is one of any text, or its end
at_front : (fault : EreFault) (n : ℕ) → IsAtMost 0 fault → IsAtMost n fault
at_front (Refused kind offset) n front = omega (arith, front)
at_front OutOfMemory n front = tt

-- a heavy one is refused
pub refused_heavy : (most : ℕ) (list : List DefinedText) (order : List ℕ) (names : List Definition)
    (numbers : List ℕ) (n : ℕ)
    (d : DefinedText) (e : Expression) (fault : EreFault) → ArePlacing list order names numbers
    → IsPlacedNext list names n d e
    → (fault ≢ OutOfMemory → ere_kind fault ≡ Some TooHeavy)
    → (ere_kind fault ≡ Some TooHeavy → most < weight_of (defined names) e) → IsAtMost 0 fault
    → AreSpelled list → AreRefused most list n fault
refused_heavy most list order names numbers n d e fault p step only heavy front spelled = record {
  within = λ _. slice_get_within list n d step.is;
  at = λ d _. at_front fault (length d.text) front;
  refused = λ memory light. absurd (light (only memory));
  at_place = λ memory light. absurd (light (only memory));
  spelled = λ _. spelled;
  heavy = λ is. record {
    placed = names;
    are_placed = p.placed;
    text = d;
    expression = e;
    is_next = step;
    is_heavy = heavy is;
  };
  none_light = λ is others all light. heavy_there most list names others n d e p.placed step (heavy is) all light;
}

-- texts that are read have elements
pub read_spelled : (known : List Definition) (list : List DefinedText) (t : DefinitionTexts) → AreRead known list t
    → t.refusal ≡ None → AreSpelled list
read_spelled known list t a whole n d is = let e = a.expressions whole n d is in (e.0, e.1)

-- whatever is placed is an expression under the known names
placed_known : (list : List DefinedText) → AreDistinct list → {names : List Definition} → ArePlaced list names → (n : ℕ)
    (d : DefinedText) → slice_get list n ≡ Some d → number_of names d.name ≢ None
    → (e : Expression) × IsExpression (known_names list) d.text e
placed_known list distinct definitions.none n d is some = absurd (some refl)
placed_known list distinct (next placed k c e before step) n d is some
    = by (cases_option (number_of (placed ++ (c.name, e) ∷ []) d.name))
    (λ there. placed_known list distinct before n d is there)
  where
    here : c.name ≡ d.name → (f : Expression) × IsExpression (known_names list) d.text f
    here same =
        let one : n ≡ k = distinct n k d c is step.is (sym same) in
        let text : c ≡ d = some_one (sym step.is ∙ (ap (slice_get list) (sym one) ∙ is)) in
        let read = read_under_known list distinct before c.text e step.follows.is_expression in
        (read.0, subst (λ (b : DefinedText). IsExpression (known_names list) b.text read.0) text read.1)

    by : ((x : ℕ) × (number_of (placed ++ (c.name, e) ∷ []) d.name ≡ Some x))
        ⊎ (number_of (placed ++ (c.name, e) ∷ []) d.name ≡ None)
        → (number_of placed d.name ≢ None → (f : Expression) × IsExpression (known_names list) d.text f)
        → (f : Expression) × IsExpression (known_names list) d.text f
    by (inr missing) f = absurd (some missing)
    by (inl (x, found)) f = go (number_cases placed c.name e d.name x found)
      where
        go : (number_of placed d.name ≡ Some x) ⊎ (c.name ≡ d.name)
            → (f : Expression) × IsExpression (known_names list) d.text f
        go (inl was) = f (λ missing. none_some (sym missing ∙ was))
        go (inr same) = here same

-- definitions have elements
pub names_spelled : (list : List DefinedText) → AreDistinct list → (names : List Definition) → AreNames list names
    → AreSpelled list
names_spelled list distinct names all n d is = let e = placed_known list distinct all.placed n d is (all.all n d is)
    in (e.1.0, e.1.1)

module _ (most : ℕ) (list : List DefinedText) (distinct : AreDistinct list) where
  -- a text that is no expression
  pub refused_text : (r : Refusal) → IsTextRefusal (known_names list) list r → AreRefused most list r.place r.fault
  refused_text r is = record {
    within = λ _. slice_get_within list r.place is.text is.is;
    at = λ d there.
        let same : is.text ≡ d = some_one (sym is.is ∙ there) in
        subst (λ (b : DefinedText). IsAtMost (length b.text) r.fault) same is.at;
    refused = λ _ _ names all.
        let read = placed_known list distinct all.placed r.place is.text is.is (all.all r.place is.text is.is) in
        is.none read.0 read.1;
    at_place = λ _ _. record {
      text = is.text;
      is = is.is;
      never = λ placed are. by_number placed are (cases_option (number_of placed is.text.name));
      cyclic = λ e. absurd (is.cycle e);
      no_text = λ _. is.none;
    };
    spelled = λ e. absurd (is.weight e);
    heavy = λ e. absurd (is.weight e);
    none_light = λ e. absurd (is.weight e);
  }
    where
      by_number : (placed : List Definition) → ArePlaced list placed
          → ((x : ℕ) × (number_of placed is.text.name ≡ Some x)) ⊎ (number_of placed is.text.name ≡ None)
          → number_of placed is.text.name ≡ None
      by_number placed are (inr none) = none
      by_number placed are (inl (x, found)) =
          let read = placed_known list distinct are r.place is.text is.is (λ missing. none_some (sym missing ∙ found))
          in absurd (is.none read.0 read.1)

  -- one that leads into a cycle
  pub refused_cycle : (t : DefinitionTexts) → AreRead (known_names list) list t → (order : List ℕ) → IsLastTurn
      (text_uses t) order
      → (n : ℕ) → n < length list → (Contains order n → ⊥) → AreRefused most list n (Refused NameCycle 0)
  refused_cycle t a order last n l apart = record {
    within = λ _. l;
    at = λ d _. omega arith;
    refused = λ _ _ names all.
        let is = slice_get-get_or list n no_text l in
        placed_in_order list distinct t a order last all.placed n _ is (all.all n _ is) apart;
    at_place = λ _ _. record {
      text = get_or list n no_text;
      is = there;
      never = λ placed are. by_number placed are (cases_option (number_of placed (get_or list n no_text).name));
      cyclic = λ _. has_text (a.each n (get_or list n no_text) there);
      no_text = λ other. absurd (other refl);
    };
    spelled = λ e. absurd (cc);
    heavy = λ e. absurd (cc);
    none_light = λ e. absurd (cc);
  }
    where
      there : slice_get list n ≡ Some (get_or list n no_text)
      there = slice_get-get_or list n no_text l

      by_number : (placed : List Definition) → ArePlaced list placed
          → ((x : ℕ) × (number_of placed (get_or list n no_text).name ≡ Some x))
          ⊎ (number_of placed (get_or list n no_text).name ≡ None)
          → number_of placed (get_or list n no_text).name ≡ None
      by_number placed are (inr none) = none
      by_number placed are (inl (x, found)) = absurd (placed_in_order list distinct t a order last are n
          (get_or list n no_text) there (λ missing. none_some (sym missing ∙ found)) apart)

      has_text : HasText (known_names list) (get_or list n no_text).text ⊎ (uses_at (text_uses t) n ≡ [])
          → HasText (known_names list) (get_or list n no_text).text
      has_text (inl e) = e
      has_text (inr none) = absurd (last n
          (omega (arith, l, length-map t.uses.items (λ (v : Vec ℕ Global). v.items), a.counted)) apart
          (λ i d lt. absurd (omega (arith, lt, ap length none))))

-- what is used is there
pub uses_there : (list : List DefinedText) (t : DefinitionTexts) → AreRead (known_names list) list t
    → AreThere (text_uses t)
uses_there list t a n i d l = omega (
  arith,
  a.there n i d l,
  length-map list known,
  a.counted,
  length-map t.uses.items (λ (v : Vec ℕ Global). v.items),
)
