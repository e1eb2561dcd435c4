-- The names that a lex file defines.
use Rattle.std.proofs.Common.{◌≡◌, ◌≢◌, ◌⊎◌, ℕ, zero, suc, List, [], ◌∷◌, ◌++◌, Bool, true, false, Option, Some, None}
use Rattle.std.proofs.Common.{Contains, Vec, length, map, take, drop, refl, sym, ap, subst, ◌∙◌, arith, length-append}
use Rattle.std.proofs.Common.{take-append-drop, inl, inr, eqb, ◌<◌, ◌+◌, get_or}
use Rattle.std.proofs.Math.Seq.{drop-append_seam, take-append_seam, take-suc}
use Rattle.std.specs.Global.{Global}
use Rattle.std.specs.List.{list_any, slice_get}
use Rattle.std.specs.Option.{MatchOption}
use Rattle.std.specs.Prelude.{◌||◌, ◌≤◌, MatchBool, if◌then◌else◌}
use Rattle.std.specs.Str.{bytes_eq}
use Rattle.std.proofs.lemmas.List.{map-append}
use Rattle.std.proofs.lemmas.List.Elements.{Contains-push_cases}
use Rattle.std.proofs.lemmas.Slice.Eq.{bytes_eq-Decides}
use Rattle.std.proofs.lemmas.Bool.{eqb-true}
use Rattle.ly_base.specs.Blank.{is_blank}
use Rattle.ly_base.specs.Escapes.{AllPass}
use Rattle.ly_base.specs.Language.{NameBefore}
use Rattle.ly_base.specs.declared.language.Language.TheVariants.{Lex}
use Rattle.ly_base.proofs.MemberLemmas.{Contains-cons_cases, Contains-first, Contains-later, Contains-none}
use Rattle.ly_base.proofs.NameLemmas.{name_one}
use Rattle.ly_ere.specs.Definitions.{AreDistinct, AreNames, AreSpelled, DefinedText, named_text, named_texts}
use Rattle.ly_ere.specs.declared.definitions.NamedText.{NamedText}
use Rattle.ly_ere.proofs.DefinitionLemmas.{names_spelled, no_entry}
use Rattle.ly_ere.specs.Elements.{AreElements, Element}
use Rattle.ly_ere.specs.Names.{Definition}
use Rattle.ly_ere.specs.Patterns.{IsBehind}
use Rattle.ly_ere.proofs.ExtentLemmas.{extent_one}
use Rattle.ly_ere.proofs.PlaceLemmas.{names_one}
use Rattle.ly_lexread.specs.Definitions.{BlanksBefore, DefinedLine, DefinesName, DefinitionLine, defined_names}
use Rattle.ly_lexread.specs.Names.{AreDefinitions, AreTextsOf, IsTextOf}
use Rattle.ly_lexread.specs.Private.Names.{AreApart, AreCut, AreExtents, IsExtentOf, parts_of}
use Rattle.ly_lexread.specs.declared.names.NameTexts.{NameTexts}
use Rattle.ly_lexread.specs.declared.defined.NameLine.{NameLine}
use Rattle.ly_lexread.proofs.BlankLemmas.{blanks_one}

blanks_behind : (b : List ℕ) → AllPass is_blank b → IsBehind b
blanks_behind [] a = tt
blanks_behind (x ∷ b) a = a.0

-- behind a name stands the text of one expression
pub text_one : (behind t u : List ℕ) → IsTextOf behind t → IsTextOf behind u → t ≡ u
text_one behind t u a b = extent_one a.spelled b.spelled a.blanks b.blanks (blanks_behind a.blanks a.are_blanks)
    (blanks_behind b.blanks b.are_blanks) (sym a.parted ∙ b.parted)

defined_text : (t u : DefinedText) → t.name ≡ u.name → t.text ≡ u.text → t ≡ u
defined_text t u a b = λ i. record { name = a i; text = b i }

pub texts_one : (ds : List DefinedLine) (ts us : List DefinedText) → AreTextsOf ds ts → AreTextsOf ds us → ts ≡ us
texts_one [] [] [] a b = refl
texts_one [] [] (u ∷ us) a b = absurd b
texts_one [] (t ∷ ts) us a b = absurd a
texts_one (d ∷ ds) [] us a b = absurd a
texts_one (d ∷ ds) (t ∷ ts) [] a b = absurd b
texts_one (d ∷ ds) (t ∷ ts) (u ∷ us) a b =
    let one : t ≡ u = defined_text t u (a.0 ∙ sym b.0) (text_one d.1.0 t.text u.text a.1 b.1) in
    let more : ts ≡ us = texts_one ds ts us a.2 b.2 in
    cc

-- names are defined in one way
pub definitions_are_one : (ds : List DefinedLine) (names others : List Definition) → AreDefinitions ds names
    → AreDefinitions ds others → names ≡ others
definitions_are_one ds names others a b = names_one a.0 names others a.2
    (subst (λ ts. AreNames ts others) (sym (texts_one ds a.0 b.0 a.1 b.1)) b.2)

-- a line defines one name
pub defines_one : (line n m t u : List ℕ) → DefinesName line n t → DefinesName line m u → (n ≡ m) × (t ≡ u)
defines_one line n m t u a b =
    let same = name_one Lex line n m a.0 b.0 a.1 b.1 in
    (same.0, blanks_one b.0 t u (subst (λ i. BlanksBefore i t) same.1 a.2) b.2)

pub definition_one : (left : ℕ) (ds : List DefinedLine) (line : List ℕ) (all others : List DefinedLine)
    → DefinitionLine left ds line all → DefinitionLine left ds line others → all ≡ others
definition_one left ds line all others a b =
    let same = defines_one line a.name b.name a.text b.text a.defines b.defines in
    a.one_more ∙ (ap (λ n. ds ++ (n, (a.text, left)) ∷ []) same.0
    ∙ (ap (λ t. ds ++ (b.name, (t, left)) ∷ []) same.1 ∙ sym b.one_more))

-- no name behind which something stands
pub no_definition_here : (line : List ℕ) → ((n t : List ℕ) → DefinesName line n t → ⊥)
    → (left : ℕ) (ds all : List DefinedLine) → DefinitionLine left ds line all → ⊥
no_definition_here line none left ds all d = none d.name d.text d.defines

pub defined_again : (line n t : List ℕ) (left : ℕ) (ds all : List DefinedLine) → DefinesName line n t
    → Contains (defined_names ds) n → DefinitionLine left ds line all → ⊥
defined_again line n t left ds all a has d
    = d.is_new (subst (Contains (defined_names ds)) (defines_one line n d.name t d.text a d.defines).0 has)

-- the keys have a name where one passes the test
pub key_found : (n : List ℕ) (ks : List (Vec ℕ Global)) (t : Bool) → t ≡ list_any (λ k. bytes_eq n k.items) ks
    → MatchBool t (Contains (map (λ k. k.items) ks) n) (Contains (map (λ k. k.items) ks) n → ⊥)
key_found n [] true e = absurd (cc)
key_found n [] false e = λ h. Contains-none n h
key_found n (k ∷ ks) t e = by (bytes_eq n k.items) refl t e (λ s f. key_found n ks s f)
  where
    names : List (List ℕ)
    names = map (λ k. k.items) ks

    none : bytes_eq n k.items ≡ false → (Contains names n → ⊥) → Contains (k.items ∷ names) n → ⊥
    none other missing h = go (Contains-cons_cases k.items names n h)
      where
        go : (k.items ≡ n) ⊎ Contains names n → ⊥
        go (inl same) = let e : bytes_eq n k.items ≡ true = (bytes_eq-Decides n k.items).1 (sym same) in cc
        go (inr later) = missing later

    by : (s : Bool) → bytes_eq n k.items ≡ s → (t : Bool) → t ≡ (s || list_any (λ k. bytes_eq n k.items) ks)
        → ((s : Bool) → s ≡ list_any (λ k. bytes_eq n k.items) ks
        → MatchBool s (Contains names n) (Contains names n → ⊥))
        → MatchBool t (Contains (k.items ∷ names) n) (Contains (k.items ∷ names) n → ⊥)
    by true is true e f = subst (Contains (k.items ∷ names)) (sym ((bytes_eq-Decides n k.items).0 is))
        (Contains-first k.items names)
    by true is false e f = absurd (cc)
    by false other true e f = Contains-later k.items names n (f true e)
    by false other false e f = none other (f false e)

-- blanks don't stand behind the name, or nothing stands behind them
pub none_behind : (line name behind : List ℕ) → NameBefore Lex line name behind
    → ((rest : List ℕ) → BlanksBefore behind rest → ⊥) → (n t : List ℕ) → DefinesName line n t → ⊥
none_behind line name behind h none n t d =
    none t (subst (λ i. BlanksBefore i t) (name_one Lex line n name d.0 behind d.1 h).1 d.2)

pub all_blank_behind : (line name behind text : List ℕ) → NameBefore Lex line name behind → BlanksBefore behind text
    → true ≡ eqb (length text) 0 → (n t : List ℕ) → DefinesName line n t → ⊥
all_blank_behind line name behind [] h b e n t d =
    d.3 (blanks_one behind t [] (subst (λ i. BlanksBefore i t) (name_one Lex line n name d.0 behind d.1 h).1 d.2) b)
all_blank_behind line name behind (x ∷ text) h b e n t d =
    absurd (omega (arith, eqb-true (length (x ∷ text)) 0 (sym e)))

-- one more name
pub apart_push : (ns : List (List ℕ)) (n : List ℕ) → AreApart ns → (Contains ns n → ⊥) → AreApart (ns ++ n ∷ [])
apart_push [] n a new = (λ h. Contains-none n h, tt)
apart_push (m ∷ ns) n a new = (
  λ h. by (Contains-push_cases ns n m h),
  apart_push ns n a.1 (λ h. new (Contains-later m ns n h)),
)
  where
    by : Contains ns m ⊎ (n ≡ m) → ⊥
    by (inl was) = a.0 was
    by (inr same) = new (subst (Contains (m ∷ ns)) (sym same) (Contains-first m ns))

-- one more key, of a name that none has
pub keys_push : (ks : List (Vec ℕ Global)) (v : Vec ℕ Global) → (Contains (map (λ k. k.items) ks) v.items → ⊥)
    → (if list_any (λ k. bytes_eq v.items k.items) ks then ks else ks ++ v ∷ []) ≡ ks ++ v ∷ []
keys_push ks v new = by (list_any (λ k. bytes_eq v.items k.items) ks) refl
  where
    by : (t : Bool) → t ≡ list_any (λ k. bytes_eq v.items k.items) ks → (if t then ks else ks ++ v ∷ []) ≡ ks ++ v ∷ []
    by true e = absurd (new (key_found v.items ks true e))
    by false e = refl

-- one more line, of a name that none has
pub lines_push : (ks all : List (Vec ℕ Global)) (v : Vec ℕ Global) (ls others : List NameLine) (l : NameLine)
    → v.items ≡ l.defined.name.now → map (λ k. k.items) ks ≡ defined_names (map parts_of ls)
    → AreApart (defined_names (map parts_of ls)) → (Contains (defined_names (map parts_of ls)) l.defined.name.now → ⊥)
    → all ≡ (if list_any (λ k. bytes_eq v.items k.items) ks then ks else ks ++ v ∷ []) → others ≡ ls ++ l ∷ []
    → (map (λ k. k.items) all ≡ defined_names (map parts_of others)) × AreApart (defined_names (map parts_of others))
lines_push ks all v ls others l is keys apart new e f = (
  ap (map (λ k. k.items)) (e ∙ keys_push ks v missing)
      ∙ (map-append (λ (k : Vec ℕ Global). k.items) ks (v ∷ [])
      ∙ (ap (λ ns. ns ++ v.items ∷ []) keys ∙ (ap (λ n. names ++ n ∷ []) is ∙ sym more))),
  subst AreApart (sym more) (apart_push names l.defined.name.now apart new),
)
  where
    names : List (List ℕ)
    names = defined_names (map parts_of ls)

    missing : Contains (map (λ k. k.items) ks) v.items → ⊥
    missing h = new (subst (Contains names) is (subst (λ ns. Contains ns v.items) keys h))

    more : defined_names (map parts_of others) ≡ names ++ l.defined.name.now ∷ []
    more = ap (λ i. defined_names (map parts_of i)) f
        ∙ (ap defined_names (map-append parts_of ls (l ∷ []))
        ∙ map-append (λ (d : DefinedLine). d.0) (map parts_of ls) (parts_of l ∷ []))

name_among : (list : List DefinedText) (n : ℕ) (d : DefinedText) → slice_get list n ≡ Some d
    → Contains (map (λ d. d.name) list) d.name
name_among [] n d is = absurd (cc)
name_among (c ∷ list) zero d is
    = let same : c ≡ d = cc in subst (λ (b : DefinedText). Contains (c.name ∷ map (λ d. d.name) list) b.name) same
    (Contains-first c.name (map (λ d. d.name) list))
name_among (c ∷ list) (suc n) d is = Contains-later c.name (map (λ d. d.name) list) d.name (name_among list n d is)

-- texts of names that stand apart are distinct
pub apart_distinct : (list : List DefinedText) → AreApart (map (λ d. d.name) list) → AreDistinct list
apart_distinct [] a n m c d p q e = absurd (cc)
apart_distinct (b ∷ list) a zero zero c d p q e = refl
apart_distinct (b ∷ list) a zero (suc m) c d p q e =
    let same : b ≡ c = cc in
    absurd (a.0 (subst (Contains (map (λ d. d.name) list)) (sym e ∙ ap (λ (i : DefinedText). i.name) (sym same))
    (name_among list m d q)))
apart_distinct (b ∷ list) a (suc n) zero c d p q e =
    let same : b ≡ d = cc in
    absurd (a.0 (subst (Contains (map (λ d. d.name) list)) (e ∙ ap (λ (i : DefinedText). i.name) (sym same))
    (name_among list n c p)))
apart_distinct (b ∷ list) a (suc n) (suc m) c d p q e = ap suc (apart_distinct list a.1 n m c d p q e)

-- where the elements end
module _ (behind : List ℕ) (n : ℕ) (only : (k : ℕ) (ws : List Element) → k ≤ length behind
    → AreElements (take k behind) ws → IsBehind (drop k behind) → k ≡ n) where
  text_is : (t : List ℕ) → IsTextOf behind t → (t ≡ take n behind) × AllPass is_blank (drop n behind)
  text_is t h =
      let long : length t ≤ length behind = omega (arith, ap length h.parted, length-append t h.blanks) in
      let front : take (length t) behind ≡ t = ap (take (length t)) h.parted ∙ take-append_seam t h.blanks in
      let rest : drop (length t) behind ≡ h.blanks = ap (drop (length t)) h.parted ∙ drop-append_seam t h.blanks in
      let same : length t ≡ n = only (length t) h.elements long (subst (λ u. AreElements u h.elements) (sym front)
      h.spelled) (subst IsBehind (sym rest) (blanks_behind h.blanks h.are_blanks)) in (
        sym front ∙ ap (λ k. take k behind) same,
        subst (AllPass is_blank) (sym rest ∙ ap (λ k. drop k behind) same) h.are_blanks,
      )

  pub extent_is : (text rest : List ℕ) → text ≡ take n behind → rest ≡ drop n behind → (t : Bool)
      → MatchBool t (AllPass is_blank rest) (AllPass is_blank rest → ⊥)
      → MatchBool t (IsExtentOf behind text) ((u : List ℕ) → IsTextOf behind u → ⊥)
  extent_is text rest e f true blank = (
    rest,
    blank,
    sym (ap (λ r. text ++ r) f ∙ (ap (λ t. t ++ drop n behind) e ∙ take-append-drop n behind)),
    λ u h. (text_is u h).0 ∙ sym e,
  )
  extent_is text rest e f false other = λ u h. other (subst (AllPass is_blank) (sym f) (text_is u h).1)

-- one more text
pub extents_push : (ds : List DefinedLine) (ts : List DefinedText) (d : DefinedLine) (t : DefinedText)
    → AreExtents ds ts → t.name ≡ d.0 → IsExtentOf d.1.0 t.text → AreExtents (ds ++ d ∷ []) (ts ++ t ∷ [])
extents_push [] [] d t a e x = (e, x, tt)
extents_push [] (u ∷ ts) d t a e x = absurd a
extents_push (c ∷ ds) [] d t a e x = absurd a
extents_push (c ∷ ds) (u ∷ ts) d t a e x = (a.0, a.1, extents_push ds ts d t a.2 e x)

-- the texts of all lines but the last, and that of the last
pub texts_parts : (ds : List DefinedLine) (d : DefinedLine) (ts : List DefinedText)
    → AreTextsOf (ds ++ d ∷ []) ts
    → ((us : List DefinedText) × AreTextsOf ds us) × ((u : List ℕ) × IsTextOf d.1.0 u)
texts_parts [] d [] a = absurd a
texts_parts [] d (t ∷ ts) a = (([], tt), (t.text, a.1))
texts_parts (c ∷ ds) d [] a = absurd a
texts_parts (c ∷ ds) d (t ∷ ts) a = let more = texts_parts ds d ts a.2
    in ((t ∷ more.0.0, (a.0, a.1, more.0.1)), more.1)

-- texts of expressions are those that the elements end with
pub texts_are_extents : (ds : List DefinedLine) (ts us : List DefinedText) → AreExtents ds ts → AreTextsOf ds us
    → us ≡ ts
texts_are_extents [] [] [] a b = refl
texts_are_extents [] [] (u ∷ us) a b = absurd b
texts_are_extents [] (t ∷ ts) us a b = absurd a
texts_are_extents (d ∷ ds) [] us a b = absurd a
texts_are_extents (d ∷ ds) (t ∷ ts) [] a b = absurd b
texts_are_extents (d ∷ ds) (t ∷ ts) (u ∷ us) a b =
    let one : u ≡ t = defined_text u t (b.0 ∙ sym a.0) (a.1.3 u.text b.1) in
    let more : us ≡ ts = texts_are_extents ds ts us a.2 b.2 in
    cc

pub extents_are_texts : (ds : List DefinedLine) (ts : List DefinedText) → AreExtents ds ts → AreSpelled ts
    → AreTextsOf ds ts
extents_are_texts [] [] a h = tt
extents_are_texts [] (t ∷ ts) a h = absurd a
extents_are_texts (d ∷ ds) [] a h = absurd a
extents_are_texts (d ∷ ds) (t ∷ ts) a h =
    let s = h zero t refl in (
      a.0,
      record { elements = s.0; spelled = s.1; blanks = a.1.0; are_blanks = a.1.1; parted = a.1.2 },
      extents_are_texts ds ts a.2 (λ n c is. h (suc n) c is),
    )

where_none : (A B : Type 0) (o : Option ℕ) → o ≡ None → MatchOption o A (λ _. B) → A
where_none A B o e h = subst (λ i. MatchOption i A (λ _. B)) e h

where_some : (A B : Type 0) (o : Option ℕ) → o ≢ None → MatchOption o A (λ _. B) → B
where_some A B None some h = absurd (some refl)
where_some A B (Some x) some h = h

-- one more line is cut
pub cut_push : (ds : List DefinedLine) (t : NameTexts) (list : List NamedText) (n : NamedText) (flaw : Option ℕ)
    (d : DefinedLine) (whole : Bool) → AreCut ds t → list ≡ t.list.items ++ n ∷ [] → n.name.now ≡ d.0
    → MatchBool whole (IsExtentOf d.1.0 n.text.now) ((u : List ℕ) → IsTextOf d.1.0 u → ⊥)
    → (flaw ≡ None → (t.flaw ≡ None) × (whole ≡ true)) → (flaw ≢ None → (t.flaw ≢ None) ⊎ (whole ≡ false))
    → (map (λ d. d.name) (named_texts list) ≡ defined_names (ds ++ d ∷ []))
    × MatchOption flaw (AreExtents (ds ++ d ∷ []) (named_texts list))
    (λ _. (texts : List DefinedText) → AreTextsOf (ds ++ d ∷ []) texts → ⊥)
cut_push ds t list n flaw d whole a e f h none some = (names, by flaw none some)
  where
    more : named_texts list ≡ named_texts t.list.items ++ named_text n ∷ []
    more = ap named_texts e ∙ map-append named_text t.list.items (n ∷ [])

    names : map (λ d. d.name) (named_texts list) ≡ defined_names (ds ++ d ∷ [])
    names = ap (map (λ (d : DefinedText). d.name)) more
        ∙ (map-append (λ (d : DefinedText). d.name) (named_texts t.list.items) (named_text n ∷ [])
        ∙ (ap (λ ns. ns ++ n.name.now ∷ []) a.names
        ∙ (ap (λ i. defined_names ds ++ i ∷ []) f
        ∙ sym (map-append (λ (d : DefinedLine). d.0) ds (d ∷ [])))))

    no_texts : (t.flaw ≢ None) ⊎ (whole ≡ false) → (texts : List DefinedText) → AreTextsOf (ds ++ d ∷ []) texts → ⊥
    no_texts (inl was) texts are = let parts = texts_parts ds d texts are
        in where_some _ _ t.flaw was a.texts parts.0.0 parts.0.1
    no_texts (inr other) texts are =
        let parts = texts_parts ds d texts are in
        subst (λ b. MatchBool b (IsExtentOf d.1.0 n.text.now) ((u : List ℕ) → IsTextOf d.1.0 u → ⊥)) other h parts.1.0
        parts.1.1

    by : (flaw : Option ℕ) → (flaw ≡ None → (t.flaw ≡ None) × (whole ≡ true))
        → (flaw ≢ None → (t.flaw ≢ None) ⊎ (whole ≡ false))
        → MatchOption flaw (AreExtents (ds ++ d ∷ []) (named_texts list))
        (λ _. (texts : List DefinedText) → AreTextsOf (ds ++ d ∷ []) texts → ⊥)
    by None none some =
        let k = none refl in
        subst (AreExtents (ds ++ d ∷ [])) (sym more) (extents_push ds (named_texts t.list.items) d (named_text n)
        (where_none _ _ t.flaw k.0 a.texts) f
        (subst (λ b. MatchBool b (IsExtentOf d.1.0 n.text.now) ((u : List ℕ) → IsTextOf d.1.0 u → ⊥)) k.1 h))
    by (Some x) none some = no_texts (some (λ e. absurd (cc)))

-- what stands past the end of the lines
abbrev pub no_line : NameLine
no_line = record { defined = no_entry; left = 0; text_left = 0 }

-- lines so far, and one more
pub parts_more : (lines : List NameLine) (i : ℕ) (l : NameLine) → i < length lines
    → map parts_of (take (i + 1) lines) ≡ map parts_of (take i lines) ++ parts_of (get_or lines i l) ∷ []
parts_more lines i l less = ap (map parts_of) (ap (λ k. take k lines) (one_more i) ∙ take-suc lines i l less)
    ∙ map-append parts_of (take i lines) (get_or lines i l ∷ [])
  where
    one_more : (i : ℕ) → i + 1 ≡ suc i
    one_more i = omega arith

-- the texts of all lines
pub cut_of : (lines : List NameLine) (ds : List DefinedLine) (t : NameTexts) (list : List NamedText)
    → map parts_of lines ≡ ds → list ≡ t.list.items → AreCut (map parts_of lines) t
    → (map (λ d. d.name) (named_texts list) ≡ defined_names ds) × MatchOption t.flaw (AreExtents ds (named_texts list))
    (λ _. (texts : List DefinedText) → AreTextsOf ds texts → ⊥)
cut_of lines ds t list these is a = subst (λ l. (map (λ d. d.name) (named_texts l) ≡ defined_names ds)
    × MatchOption t.flaw (AreExtents ds (named_texts l)) (λ _. (texts : List DefinedText) → AreTextsOf ds texts → ⊥))
    (sym is)
    (subst (λ i. (map (λ d. d.name) (named_texts t.list.items) ≡ defined_names i)
    × MatchOption t.flaw (AreExtents i (named_texts t.list.items))
    (λ _. (texts : List DefinedText) → AreTextsOf i texts → ⊥)) these (a.names, a.texts))

-- they are distinct
pub cut_distinct : (lines : List NameLine) (ds : List DefinedLine) (t : NameTexts) (list : List NamedText)
    → map parts_of lines ≡ ds → list ≡ t.list.items → AreCut (map parts_of lines) t → AreApart (defined_names ds)
    → AreDistinct (named_texts list)
cut_distinct lines ds t list these is a apart
    = apart_distinct (named_texts list) (subst AreApart (sym (cut_of lines ds t list these is a).0) apart)

-- they are the definitions
pub cut_defined : (lines : List NameLine) (ds : List DefinedLine) (t : NameTexts) (list : List NamedText)
    (names : List Definition) → map parts_of lines ≡ ds → list ≡ t.list.items → AreCut (map parts_of lines) t
    → AreApart (defined_names ds) → t.flaw ≡ None → AreNames (named_texts list) names → AreDefinitions ds names
cut_defined lines ds t list names these is a apart whole are =
    let spelled = names_spelled (named_texts list) (cut_distinct lines ds t list these is a apart) names are in (
      named_texts list,
      extents_are_texts ds (named_texts list) (where_none _ _ t.flaw whole (cut_of lines ds t list these is a).1)
          spelled,
      are,
    )
