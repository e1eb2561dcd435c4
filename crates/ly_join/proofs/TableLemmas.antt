-- Terminals that are the same, and the tables of symbols' numbers.
use Rattle.std.proofs.Common.{◌≡◌, ◌<◌, ◌+◌, ◌^◌, ℕ, List, [], ◌∷◌, ◌++◌, true, false, cond, rules}
use Rattle.std.proofs.Common.{Contains, Option, Some, None, refl, sym, ap, subst, ◌∙◌, arith, inl, inr, ◌⊎◌, true≢false}
use Rattle.std.proofs.Common.{length, slice_get, slice_index_or, length-set, lit<}
use Rattle.std.specs.Prelude.{is_some, replicate, slice_set}
use Rattle.std.specs.Map.{lookup}
use Rattle.std.specs.Str.{bytes_eq}
use Rattle.std.proofs.lemmas.Bool.{cases_Bool, cases_eq, eq-eqb, eqb-true}
use Rattle.std.proofs.lemmas.Grind.{common_steps}
use Rattle.std.proofs.lemmas.List.{get_or-replicate, get_or-set_same, get_or-set_other, length_push}
use Rattle.std.proofs.lemmas.List.{length-replicate}
use Rattle.std.proofs.lemmas.List.Elements.{Contains-push_cases}
use Rattle.ly_base.specs.Keys.{PutsAt}
use Rattle.ly_base.specs.declared.numbers.Sym.{Sym}
use Rattle.ly_join.specs.Terminals.{TerminalName, end, undefined, token, byte, same_terminal}
use Rattle.ly_join.specs.Private.Tables.{AreFoundByName, AreTables, IsFoundAs}
use Rattle.ly_base.proofs.MemberLemmas.{Contains-cons_cases, Contains-one}
use Rattle.ly_base.proofs.ListLemmas.{slice_get-append, slice_get-behind}
use Rattle.ly_join.proofs.ListLemmas.{member_at}

-- texts that pass the test are one, and a text passes it with itself
pub same_bytes : (s t : List ℕ) → bytes_eq s t ≡ true → s ≡ t
same_bytes s t h = search (rules, common_steps)

pub bytes_itself : (s : List ℕ) → bytes_eq s s ≡ true
bytes_itself [] = refl
bytes_itself (x ∷ s) = rw (eq-eqb x x refl, bytes_itself s)

-- terminals that pass the test are one, and a terminal passes it with itself
pub same_sound : (x y : TerminalName) → same_terminal x y ≡ true → x ≡ y
same_sound end end h = refl
same_sound undefined undefined h = refl
same_sound (token m) (token n) h = ap token (same_bytes m n h)
same_sound (byte b) (byte c) h = ap byte (eqb-true b c h)
same_sound x y h = absurd (true≢false (sym h))

pub same_itself : (x : TerminalName) → same_terminal x x ≡ true
same_itself end = refl
same_itself undefined = refl
same_itself (token n) = bytes_itself n
same_itself (byte b) = eq-eqb b b refl

-- what is found is there, and what isn't found isn't
pub found_there : {X : Type 0} (all : List X) (x : X) (found : Option Sym) → IsFoundAs all x found
    → is_some found ≡ true → Contains all x
found_there all x None h is = absurd (true≢false (sym is))
found_there all x (Some t) h is = member_at all t.0 x h

pub unfound_there : {X : Type 0} (all : List X) (x : X) (found : Option Sym) → IsFoundAs all x found
    → is_some found ≡ false → Contains all x → ⊥
unfound_there all x None h is = h
unfound_there all x (Some t) h is = absurd (true≢false is)

-- what is found stays where it is when another one comes
found_later : {X : Type 0} (all : List X) (y x : X) (found : Option Sym) → (y ≡ x → ⊥) → IsFoundAs all x found
    → IsFoundAs (all ++ y ∷ []) x found
found_later all y x None other h
    = λ there. elim (Contains-push_cases all y x there) [ inl old ↦ h old | inr e ↦ other e ]
found_later all y x (Some t) other h = slice_get-append all (y ∷ []) t.0 x h

-- the last one has the next number
found_last : {X : Type 0} (all : List X) (x : X) (s : Sym) → s.0 ≡ length all → IsFoundAs (all ++ x ∷ []) x (Some s)
found_last all x s next = subst (λ n. slice_get (all ++ x ∷ []) n ≡ Some x) (sym next)
    (slice_get-behind all [] (length all) x refl)

-- the numbers by name, with one name more
pub found_more : {K X : Type 0} (name_of : K → List ℕ) (symbol : List ℕ → X)
    (one : (m n : List ℕ) → symbol m ≡ symbol n → m ≡ n) (all : List X) (before after : List (K × Sym)) (s : Sym)
    (name : List ℕ) → s.0 ≡ length all → PutsAt name_of name s before after → AreFoundByName name_of symbol all before
    → AreFoundByName name_of symbol (all ++ symbol name ∷ []) after
found_more name_of symbol one all before after s name next put found n = by (cases_Bool (bytes_eq n name))
  where
    here : Option Sym
    here = lookup (λ k. bytes_eq n (name_of k)) before

    by : (bytes_eq n name ≡ true) ⊎ (bytes_eq n name ≡ false)
        → IsFoundAs (all ++ symbol name ∷ []) (symbol n) (lookup (λ k. bytes_eq n (name_of k)) after)
    by (inl e) = subst (IsFoundAs (all ++ symbol name ∷ []) (symbol n))
        (sym (put n ∙ ap (λ b. cond b (Some s) here) e))
        (subst (λ m. IsFoundAs (all ++ symbol name ∷ []) (symbol m) (Some s)) (sym (same_bytes n name e))
        (found_last all (symbol name) s next))
    by (inr e) =
        let other : symbol name ≡ symbol n → ⊥
        = λ same. true≢false (sym (bytes_itself n) ∙ (ap (bytes_eq n) (sym (one name n same)) ∙ e)) in
        subst (IsFoundAs (all ++ symbol name ∷ []) (symbol n)) (sym (put n ∙ ap (λ b. cond b (Some s) here) e))
        (found_later all (symbol name) (symbol n) here other (found n))

module _ {K : Type 0} (name_of : K → List ℕ) (ts : List TerminalName) (by_name : List (K × Sym))
    (by_byte : List (Option Sym)) (s : Sym) (tables : AreTables name_of ts by_name by_byte) (next : s.0 ≡ length ts)
    (small : length ts + 1 < 2 ^ 32) where
  shorter : (x : TerminalName) → length (ts ++ x ∷ []) < 2 ^ 32
  shorter x = omega (arith, small, length_push ts x)

  -- the tables with one token more
  pub tables_token : (after : List (K × Sym)) (name : List ℕ) → PutsAt name_of name s by_name after
      → AreTables name_of (ts ++ token name ∷ []) after by_byte
  tables_token after name put = record {
    count = shorter (token name);
    tokens = found_more name_of token (λ m n e. cc) ts by_name after s name next put tables.tokens;
    literals = record {
      bytes = tables.literals.bytes;
      numbers = λ b lt. found_later ts (token name) (byte b) (slice_index_or by_byte b None) (λ e. cc)
          (tables.literals.numbers b lt);
    };
  }

  -- the tables with one literal more
  pub tables_byte : (b : ℕ) → b < 256
      → AreTables name_of (ts ++ byte b ∷ []) by_name (slice_set by_byte b (Some s))
  tables_byte b lt = record {
    count = shorter (byte b);
    tokens = λ m. found_later ts (byte b) (token m) (lookup (λ k. bytes_eq m (name_of k)) by_name) (λ e. cc)
        (tables.tokens m);
    literals = record {
      bytes = length-set by_byte b (Some s) ∙ tables.literals.bytes;
      numbers = λ d less. by d less (cases_eq d b);
    };
  } where
    by : (d : ℕ) → d < 256 → (d ≡ b) ⊎ (d ≡ b → ⊥)
        → IsFoundAs (ts ++ byte b ∷ []) (byte d) (slice_index_or (slice_set by_byte b (Some s)) d None)
    by d less (inl same) =
        let found : slice_index_or (slice_set by_byte b (Some s)) d None ≡ Some s
        = ap (λ n. slice_index_or (slice_set by_byte b (Some s)) n None) same
        ∙ get_or-set_same by_byte b (Some s) None (omega (arith, lt, tables.literals.bytes)) in
        subst (IsFoundAs (ts ++ byte b ∷ []) (byte d)) (sym found)
        (found_last ts (byte b) s next ∙ ap (λ n. Some (byte n)) (sym same))
    by d less (inr other) =
        subst (IsFoundAs (ts ++ byte b ∷ []) (byte d)) (sym (get_or-set_other by_byte b d (Some s) None other))
        (found_later ts (byte b) (byte d) (slice_index_or by_byte d None) (λ e. other (cc))
        (tables.literals.numbers d less))

-- the tables of no token and no literal
pub no_tables : {K : Type 0} (name_of : K → List ℕ) (by_byte : List (Option Sym)) → by_byte ≡ replicate 256 None
    → AreTables name_of (end ∷ undefined ∷ []) [] by_byte
no_tables name_of by_byte none = record {
  count = lit< tt;
  tokens = λ n there. elim (Contains-cons_cases end (undefined ∷ []) (token n) there) [
    | inl e ↦ absurd (cc)
    | inr rest ↦ let e : undefined ≡ token n = Contains-one undefined (token n) rest in cc
  ];
  literals = record {
    bytes = ap length none ∙ length-replicate 256 (let n : Option Sym = None in n);
    numbers = λ b lt. subst (IsFoundAs (end ∷ undefined ∷ []) (byte b))
        (sym (ap (λ os. slice_index_or os b None) none ∙ get_or-replicate 256 b None None lt))
        (λ there. elim (Contains-cons_cases end (undefined ∷ []) (byte b) there) [
          | inl e ↦ absurd (cc)
          | inr rest ↦ let e : undefined ≡ byte b = Contains-one undefined (byte b) rest in cc
        ]);
  };
}
