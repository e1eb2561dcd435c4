-- What an action says is determined.
use Rattle.std.proofs.Common.{◌≡◌, ◌≢◌, ℕ, ◌≤◌, List, [], ◌∷◌, ◌++◌, Bool, true, false, refl, sym, ap, ◌∙◌, subst}
use Rattle.std.proofs.Common.{length, arith, inl, inr, nat_eq, not}
use Rattle.std.specs.List.{list_any}
use Rattle.std.specs.Prelude.{if◌then◌else◌}
use Rattle.ly_base.specs.Language.{IsName}
use Rattle.ly_base.specs.SparseSet.{with_member}
use Rattle.ly_base.specs.declared.language.Language.TheVariants.{Lex}
use Rattle.ly_yaccread.specs.Actions.{ActionFirst, ActionPassed, Making, MorePlaces, PlaceFirst, Places, ValueFirst}
use Rattle.ly_yaccread.specs.Actions.{pass, build, last, more, none, some, passes, builds}
use Rattle.ly_yaccread.specs.Symbols.{NameFirst, NoMark}
use Rattle.ly_yaccread.specs.Words.{Word, mark, name}
use Rattle.ly_yaccread.specs.declared.words.Mark.TheVariants.{Whole, Semicolon, OpenBrace, CloseBrace}
use Rattle.ly_yaccread.specs.declared.words.Mark.TheVariants.{OpenParenthesis, CloseParenthesis, Equals, Comma}
use Rattle.ly_yaccread.proofs.PlaceLemmas.{place_one, place_shorter}
use Rattle.ly_yaccread.proofs.SymbolLemmas.{heads}

-- behind a `)` no place comes
behind_close : (k : ℕ) (ps all : List ℕ) (ws r rest : List Word) → ws ≡ mark CloseParenthesis ∷ r
    → MorePlaces k ps ws all rest → (ps ≡ all) × (r ≡ rest)
behind_close k ps all ws r rest e (last qs q) = (refl, (heads _ _ _ _ (sym e)).1)
behind_close k ps all ws r rest e (more qs os p vs behind q f g h) = absurd (cc (heads _ _ _ _ (sym e)).0)

-- behind a `,` a new place comes
behind_comma : (k : ℕ) (ps all : List ℕ) (p : ℕ) (ws inside behind rest : List Word) → ws ≡ mark Comma ∷ inside
    → PlaceFirst k inside p behind → MorePlaces k ps ws all rest
    → (list_any (nat_eq p) ps ≡ false) × MorePlaces k (ps ++ p ∷ []) behind all rest
behind_comma k ps all p ws inside behind rest e f (last qs q) = absurd (cc (heads _ _ _ _ (sym e)).0)
behind_comma k ps all p ws inside behind rest e f (more qs os q vs back r g h i) =
    let one = place_one k inside q p back behind (subst (λ u. PlaceFirst k u q back) (heads _ _ _ _ e).1 g) f in (
      subst (λ j. list_any (nat_eq j) qs ≡ false) one.0 h,
      subst (λ j. MorePlaces k (qs ++ j ∷ []) behind os r) one.0
          (subst (λ u. MorePlaces k (qs ++ q ∷ []) u os r) one.1 i),
    )

pub no_place : (k : ℕ) (ps : List ℕ) (ws inside : List Word) → ws ≡ mark Comma ∷ inside
    → ((p : ℕ) (r : List Word) → PlaceFirst k inside p r → ⊥) → (all : List ℕ) (rest : List Word)
    → MorePlaces k ps ws all rest → ⊥
no_place k ps ws inside e h all rest (last qs q) = absurd (cc (heads _ _ _ _ e).0)
no_place k ps ws inside e h all rest (more qs os p vs behind q f g i)
    = h p behind (subst (λ u. PlaceFirst k u p behind) (heads _ _ _ _ e).1 f)

-- the places go on from here as from the beginning
pub record PlacesGoOn (k : ℕ) (ps : List ℕ) (ws : List Word) (qs : List ℕ) (at : List Word) : Type 0 where
  pub sound : (all : List ℕ) (rest : List Word) → MorePlaces k qs at all rest → MorePlaces k ps ws all rest
  pub complete : (all : List ℕ) (rest : List Word) → MorePlaces k ps ws all rest → MorePlaces k qs at all rest

pub places_end : (k : ℕ) (ps qs : List ℕ) (ws at rest : List Word) → PlacesGoOn k ps ws qs at
    → at ≡ mark CloseParenthesis ∷ rest → MorePlaces k ps ws qs rest
places_end k ps qs ws at rest so_far e
    = so_far.sound qs rest (subst (λ u. MorePlaces k qs u qs rest) (sym e) (last qs rest))

new_member : (t : Bool) (qs : List ℕ) (p : ℕ) → true ≡ not t → (if t then qs else qs ++ p ∷ []) ≡ qs ++ p ∷ []
new_member true qs p e = cc e
new_member false qs p e = refl

not_false : (t : Bool) → true ≡ not t → t ≡ false
not_false true e = cc e
not_false false e = refl

-- a place more
pub one_place : (k : ℕ) (ps qs longer : List ℕ) (p : ℕ) (ws at inside behind : List Word) → PlacesGoOn k ps ws qs at
    → at ≡ mark Comma ∷ inside → PlaceFirst k inside p behind → true ≡ not (list_any (nat_eq p) qs)
    → longer ≡ with_member qs p → PlacesGoOn k ps ws longer behind
one_place k ps qs longer p ws at inside behind so_far e f new g =
    let grown = g ∙ new_member (list_any (nat_eq p) qs) qs p new in
    record {
      sound = λ all rest h. so_far.sound all rest
          (subst (λ u. MorePlaces k qs u all rest) (sym e) (more qs all p inside behind rest f
          (not_false (list_any (nat_eq p) qs) new) (subst (λ l. MorePlaces k l behind all rest) grown h)));
      complete = λ all rest h. subst (λ l. MorePlaces k l behind all rest) (sym grown)
          (behind_comma k qs all p at inside behind rest e f (so_far.complete all rest h)).1;
    }

more_one : (k : ℕ) (ps all every : List ℕ) (ws r s : List Word) → MorePlaces k ps ws all r → MorePlaces k ps ws every s
    → (all ≡ every) × (r ≡ s)
more_one k ps all every ws r s (last qs q) b = behind_close k qs every (mark CloseParenthesis ∷ q) q s refl b
more_one k ps all every ws r s (more qs os p vs behind q f g h) b = more_one k (qs ++ p ∷ []) os every behind q s h
    (behind_comma k qs every p (mark Comma ∷ vs) vs behind s refl f b).1

place_no_close : (k : ℕ) (r : List Word) (p : ℕ) (s : List Word) → PlaceFirst k (mark CloseParenthesis ∷ r) p s → ⊥
place_no_close k r p s (ds, e, a) = cc (heads _ _ _ _ e).0

-- where a `)` comes first there is no place
pub close_first : (k : ℕ) (ws r : List Word) (ps : List ℕ) (rest : List Word) → ws ≡ mark CloseParenthesis ∷ r
    → Places k ws ps rest → ([] ≡ ps) × (r ≡ rest)
close_first k ws r ps rest e (none q) = (refl, (heads _ _ _ _ (sym e)).1)
close_first k ws r ps rest e (some qs p vs behind q f g)
    = absurd (place_no_close k r p behind (subst (λ u. PlaceFirst k u p behind) e f))

-- and else there is one
pub place_first : (k : ℕ) (ws : List Word) (p : ℕ) (behind : List Word) (ps : List ℕ) (rest : List Word)
    → PlaceFirst k ws p behind → Places k ws ps rest → MorePlaces k (p ∷ []) behind ps rest
place_first k ws p behind ps rest f (none q) = absurd (place_no_close k q p behind f)
place_first k ws p behind ps rest f (some qs q vs back s g h) =
    let one = place_one k vs q p back behind g f in
    subst (λ j. MorePlaces k (j ∷ []) behind qs s) one.0 (subst (λ u. MorePlaces k (q ∷ []) u qs s) one.1 h)

pub no_places : (k : ℕ) (ws : List Word) → NoMark CloseParenthesis ws
    → ((p : ℕ) (r : List Word) → PlaceFirst k ws p r → ⊥) → (ps : List ℕ) (rest : List Word) → Places k ws ps rest → ⊥
no_places k ws a b ps rest (none q) = a q refl
no_places k ws a b ps rest (some qs p vs behind s f g) = b p behind f

places_one : (k : ℕ) (ws : List Word) (ps qs : List ℕ) (r s : List Word) → Places k ws ps r → Places k ws qs s
    → (ps ≡ qs) × (r ≡ s)
places_one k ws ps qs r s (none q) b = close_first k (mark CloseParenthesis ∷ q) q qs s refl b
places_one k ws ps qs r s (some os p vs behind q f g) b
    = more_one k (p ∷ []) os qs behind q s g (place_first k vs p behind qs s f b)

place_no_name : (k : ℕ) (n : List ℕ) (r : List Word) (p : ℕ) (s : List Word) → PlaceFirst k (name n ∷ r) p s → ⊥
place_no_name k n r p s (ds, e, a) = cc (heads _ _ _ _ e).0

same_name : (n m : List ℕ) (r s : List Word) → name n ∷ r ≡ name m ∷ s → (n ≡ m) × (r ≡ s)
same_name n m r s e = (cc, cc)

-- what a value says that begins with a name
pub name_value : (k : ℕ) (ws : List Word) (n : List ℕ) (behind : List Word) (m : Making) (rest : List Word)
    → ws ≡ name n ∷ behind → ValueFirst k ws m rest
    → (ps : List ℕ) × (inside : List Word) × (behind ≡ mark OpenParenthesis ∷ inside) × Places k inside ps rest
    × (m ≡ build n ps)
name_value k ws n behind m rest e (passes p vs q f)
    = absurd (place_no_name k n behind p q (subst (λ u. PlaceFirst k u p q) e f))
name_value k ws n behind m rest e (builds c ps vs q f g h) =
    let same = same_name c n (mark OpenParenthesis ∷ vs) behind e in
    (ps, vs, sym same.1, h, ap (λ i. build i ps) same.0)

-- no name comes first, and no place
pub no_value : (k : ℕ) (ws : List Word) → ((n : List ℕ) (r : List Word) → NameFirst ws n r → ⊥)
    → ((p : ℕ) (r : List Word) → PlaceFirst k ws p r → ⊥) → (m : Making) (rest : List Word) → ValueFirst k ws m rest → ⊥
no_value k ws a b m rest (passes p vs q f) = b p q f
no_value k ws a b m rest (builds c ps vs q f g h) = a c (mark OpenParenthesis ∷ vs) (refl, g)

value_one : (k : ℕ) (ws : List Word) (m o : Making) (r s : List Word) → ValueFirst k ws m r → ValueFirst k ws o s
    → (m ≡ o) × (r ≡ s)
value_one k ws m o r s (passes p vs q f) b = at k vs p q o s f b
  where
    at : (k : ℕ) (vs : List Word) (p : ℕ) (q : List Word) (o : Making) (s : List Word) → PlaceFirst k vs p q
        → ValueFirst k vs o s → (pass p ≡ o) × (q ≡ s)
    at k vs p q o s f (passes t us u g) = let one = place_one k us p t q u f g in (ap pass one.0, one.1)
    at k vs p q o s f (builds c ps us u g h i) = absurd (place_no_name k c (mark OpenParenthesis ∷ us) p q f)
value_one k ws m o r s (builds c ps vs q f g h) b =
    let v = name_value k (name c ∷ mark OpenParenthesis ∷ vs) c (mark OpenParenthesis ∷ vs) o s refl b in
    let one = places_one k v.1 ps v.0 q s (subst (λ u. Places k u ps q) (heads _ _ _ _ v.2).1 h) v.3 in
    (ap (build c) one.0 ∙ sym v.4, one.1)

behind_equals : (r s : List Word) → mark OpenBrace ∷ mark Whole ∷ mark Equals ∷ r
    ≡ mark OpenBrace ∷ mark Whole ∷ mark Equals ∷ s → r ≡ s
behind_equals r s e = cc

behind_both : (r s : List Word) → mark Semicolon ∷ mark CloseBrace ∷ r ≡ mark Semicolon ∷ mark CloseBrace ∷ s → r ≡ s
behind_both r s e = cc

-- what stands behind `{ $$ =` is a value
pub value_behind : (k : ℕ) (ws behind : List Word) (m : Making) (rest : List Word)
    → ws ≡ mark OpenBrace ∷ mark Whole ∷ mark Equals ∷ behind → ActionPassed k ws m rest
    → ValueFirst k behind m (mark Semicolon ∷ mark CloseBrace ∷ rest)
value_behind k ws behind m rest e (inl a)
    = subst (λ u. ValueFirst k u m (mark Semicolon ∷ mark CloseBrace ∷ rest))
    (behind_equals a.behind behind (sym a.opens ∙ e)) a.value
value_behind k ws behind m rest e (inr (n, f, g)) = absurd (n _ e)

action_one : (k : ℕ) (ws : List Word) (m o : Making) (r s : List Word) → ActionFirst k ws m r → ActionFirst k ws o s
    → (m ≡ o) × (r ≡ s)
action_one k ws m o r s a b =
    let one = value_one k a.behind m o (mark Semicolon ∷ mark CloseBrace ∷ r) (mark Semicolon ∷ mark CloseBrace ∷ s)
    a.value (value_behind k ws a.behind o s a.opens (inl b)) in
    (one.0, behind_both r s one.1)

-- what an action says is determined
pub passed_one : (k : ℕ) (ws : List Word) (m o : Making) (r s : List Word) → ActionPassed k ws m r
    → ActionPassed k ws o s → (m ≡ o) × (r ≡ s)
passed_one k ws m o r s (inl a) (inl b) = action_one k ws m o r s a b
passed_one k ws m o r s (inl a) (inr (n, f, g)) = absurd (n _ a.opens)
passed_one k ws m o r s (inr (n, f, g)) (inl b) = absurd (n _ b.opens)
passed_one k ws m o r s (inr (n, f, g)) (inr (q, h, i)) = (f ∙ sym h, sym g ∙ i)

pub places_none : (k : ℕ) (ws rest : List Word) (ps : List ℕ) → ws ≡ mark CloseParenthesis ∷ rest → ps ≡ []
    → Places k ws ps rest
places_none k ws rest ps e f = rw (e, f) (none rest)

pub places_some : (k : ℕ) (ws behind rest : List Word) (p : ℕ) (begun all ps : List ℕ) → PlaceFirst k ws p behind
    → begun ≡ with_member [] p → MorePlaces k begun behind all rest → ps ≡ all → Places k ws ps rest
places_some k ws behind rest p begun all ps f e h g
    = some ps p ws behind rest f (subst (λ l. MorePlaces k l behind ps rest) e (rw g h))

-- a node
pub value_built : (k : ℕ) (ws behind inside rest : List Word) (n items ps : List ℕ) → NameFirst ws n behind
    → IsName Lex n → behind ≡ mark OpenParenthesis ∷ inside → Places k inside ps rest → items ≡ n
    → ValueFirst k ws (build items ps) rest
value_built k ws behind inside rest n items ps f is e h g
    = subst (λ u. ValueFirst k u (build items ps) rest) (sym (f.0 ∙ ap (λ u. name n ∷ u) e))
    (subst (λ u. ValueFirst k (name n ∷ mark OpenParenthesis ∷ inside) (build u ps) rest) (sym g)
    (builds n ps inside rest is
    f.1 h))

-- an action that has its value, but doesn't end behind it
pub no_end : (k : ℕ) (ws inside value behind : List Word) (m : Making) → ws ≡ mark OpenBrace ∷ inside
    → inside ≡ mark Whole ∷ mark Equals ∷ value → ValueFirst k value m behind
    → ((rest : List Word) → behind ≢ mark Semicolon ∷ mark CloseBrace ∷ rest) → (o : Making) (rest : List Word)
    → ActionPassed k ws o rest → ⊥
no_end k ws inside value behind m e f v n o rest a =
    let w = value_behind k ws value o rest (e ∙ ap (λ u. mark OpenBrace ∷ u) f) a in
    n rest (value_one k value m o behind (mark Semicolon ∷ mark CloseBrace ∷ rest) v w).1

more_within : (k : ℕ) (ps all : List ℕ) (ws rest : List Word) → MorePlaces k ps ws all rest → length rest ≤ length ws
more_within k ps all ws rest (last qs q) = omega arith
more_within k ps all ws rest (more qs os p vs behind q f g h)
    = omega (arith, place_shorter k vs p behind f, more_within k (qs ++ p ∷ []) os behind q h)

places_within : (k : ℕ) (ws : List Word) (ps : List ℕ) (rest : List Word) → Places k ws ps rest
    → length rest ≤ length ws
places_within k ws ps rest (none q) = omega arith
places_within k ws ps rest (some qs p vs behind q f g)
    = omega (arith, place_shorter k vs p behind f, more_within k (p ∷ []) qs behind q g)

value_within : (k : ℕ) (ws : List Word) (m : Making) (rest : List Word) → ValueFirst k ws m rest
    → length rest ≤ length ws
value_within k ws m rest (passes p vs q f) = omega (arith, place_shorter k vs p q f)
value_within k ws m rest (builds c ps vs q f g h) = omega (arith, places_within k vs ps q h)

pub passed_within : (k : ℕ) (ws : List Word) (m : Making) (rest : List Word) → ActionPassed k ws m rest
    → length rest ≤ length ws
passed_within k ws m rest (inl a)
    = omega (arith, ap length a.opens, value_within k a.behind m (mark Semicolon ∷ mark CloseBrace ∷ rest) a.value)
passed_within k ws m rest (inr (n, e, f)) = omega (arith, ap length f)
