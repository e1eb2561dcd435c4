-- What a yacc file makes of trees speaks of places of its bodies.
use Rattle.std.proofs.Common.{◌≡◌, ◌∙◌, inl, inr, ℕ, zero, suc, ◌≤◌, List, [], ◌∷◌, ◌++◌, Some, None}
use Rattle.std.proofs.Common.{All, Option, ap, arith, false, length, map, nat_eq, option_map, refl}
use Rattle.std.proofs.Common.{slice_get, subst, sym, true}
use Rattle.std.specs.List.{AllPairs, list_any}
use Rattle.std.proofs.lemmas.Bool.{eq-eqb}
use Rattle.std.proofs.lemmas.List.Elements.{All-append, All-cons, All-nil}
use Rattle.std.proofs.lemmas.Option.{slice_get-map}
use Rattle.std.proofs.lemmas.Slice.Zip.{AllZip-long}
use Rattle.ly_base.proofs.MemberLemmas.{Contains-one}
use Rattle.ly_base.specs.Language.{IsName}
use Rattle.ly_base.specs.declared.language.Language.TheVariants.{Lex}
use Rattle.ly_base.proofs.ListLemmas.{AllPairs-append}
use Rattle.ly_yaccread.specs.Actions.{ActionPassed, IsPlace, Making, MorePlaces, Places, ValueFirst, build, builds}
use Rattle.ly_yaccread.specs.Actions.{default, last, more, none, pass, passes, some}
use Rattle.ly_yaccread.specs.Rules.{BodyEnd, LateAction, LeftSide, Ruling, YaccRules, end, rule, semicolon}
use Rattle.ly_yaccread.specs.Words.{Word}
use Rattle.ly_join.specs.Grammar.{GrammarRule, Symbol}
use Rattle.ly_join.specs.Joined.{AreJoined, IsJoinedRule, Note, SymbolTable, shape_by, table_of}
use Rattle.ly_join.proofs.NumberingLemmas.{any_member}
use Rattle.ly_pack.specs.Machine.{IsShapeFor}
use Rattle.ly_emit.specs.Laws.{ShapesAreWithin}
use Rattle.ly_emit.specs.Tables.{shape_from}

-- Places of a body of so many symbols, each once.
record ArePlaces (n : ℕ) (ps : List ℕ) : Type 0 where
  within : All (λ i. (1 ≤ i) × (i ≤ n)) ps
  apart : AllPairs (λ i j. i ≡ j → ⊥) ps

no_places : (n : ℕ) → ArePlaces n []
no_places n = record { within = All-nil _; apart = λ i j d l m. absurd (omega (arith, m)) }

one_more : (n : ℕ) (ps : List ℕ) (p : ℕ) (ds : List ℕ) → IsPlace n ds p → list_any (nat_eq p) ps ≡ false
    → ArePlaces n ps → ArePlaces n (ps ++ p ∷ [])
one_more n ps p ds is once are = record {
  within = All-append (λ i. (1 ≤ i) × (i ≤ n)) ps (p ∷ []) are.within
      (All-cons (λ i. (1 ≤ i) × (i ≤ n)) p [] (is.first, is.within) (All-nil _));
  apart = AllPairs-append (λ i j. i ≡ j → ⊥) ps (p ∷ []) are.apart (λ i j d l m. absurd (omega (arith, l, m)))
      (λ x y hx hy e. let same : p ≡ x = Contains-one p y hy ∙ sym e in
      let off : false ≡ true
      = sym once ∙ any_member (nat_eq p) ps x hx (eq-eqb p x same) in cc);
}

more_places : (n : ℕ) {ps all : List ℕ} {ws rest : List Word} → MorePlaces n ps ws all rest → ArePlaces n ps
    → ArePlaces n all
more_places n (last ps rest) are = are
more_places n (more ps all p ws behind rest first once h) are
    = more_places n h (one_more n ps p first.0 first.2 once are)

places : (n : ℕ) {ws rest : List Word} {ps : List ℕ} → Places n ws ps rest → ArePlaces n ps
places n (none rest) = no_places n
places n (some ps p ws behind rest first h) = more_places n h (one_more n [] p first.0 first.2 refl (no_places n))

default_fits : (w : List Symbol) → IsShapeFor (length w) (shape_by default w)
default_fits [] = refl
default_fits (X ∷ w) = (omega arith, omega arith)

name_some : (n : List ℕ) → IsName Lex n → 1 ≤ length n
name_some [] is = absurd is
name_some (b ∷ n) is = omega arith

value_fits : (n : ℕ) {ws rest : List Word} {m : Making} → ValueFirst n ws m rest → (w : List Symbol) → length w ≡ n
    → IsShapeFor (length w) (shape_by m w)
value_fits n (passes p ws rest first) w long = let is = first.2 in
    let within = is.within in (is.first, omega (arith, long, within))
value_fits n (builds name ps ws rest is no_error h) w long = let are = places n h in (
  name_some name is,
  subst (λ k. All (λ i. (1 ≤ i) × (i ≤ k)) ps) (sym long) are.within,
  are.apart,
)

action_fits : (n : ℕ) (ws rest : List Word) (m : Making) → ActionPassed n ws m rest → (w : List Symbol)
    → length w ≡ n → IsShapeFor (length w) (shape_by m w)
action_fits n ws rest m (inl a) w long = value_fits n a.value w long
action_fits n ws rest m (inr (unopened, e, same)) w long
    = subst (λ k. IsShapeFor (length w) (shape_by k w)) (sym e) (default_fits w)

end_fits : (n : ℕ) {ws rest : List Word} {x : Option Word} {m : Making} → BodyEnd n ws x m rest → (w : List Symbol)
    → length w ≡ n → IsShapeFor (length w) (shape_by m w)
end_fits n {rest = rest} {x = x} {m = m} b w long
    = by_late b.early x (action_fits n _ b.behind b.early b.action w long) b.late
  where
    by_late : (early : Making) (x : Option Word) → IsShapeFor (length w) (shape_by early w)
        → LateAction n early x b.left m rest → IsShapeFor (length w) (shape_by m w)
    by_late default (Some y) fits late = action_fits n b.left rest m late w long
    by_late default None fits late = subst (λ k. IsShapeFor (length w) (shape_by k w)) (sym late.0) fits
    by_late (pass p) (Some y) fits late = subst (λ k. IsShapeFor (length w) (shape_by k w)) (sym late.0) fits
    by_late (pass p) None fits late = subst (λ k. IsShapeFor (length w) (shape_by k w)) (sym late.0) fits
    by_late (build c ps) (Some y) fits late = subst (λ k. IsShapeFor (length w) (shape_by k w)) (sym late.0) fits
    by_late (build c ps) None fits late = subst (λ k. IsShapeFor (length w) (shape_by k w)) (sym late.0) fits

-- so each rule of a file
rules_fit : {before : Option LeftSide} {ws : List Word} {rs : List Ruling} {ss : _}
    → YaccRules before ws rs ss → (k : ℕ) (r : Ruling) → slice_get rs k ≡ Some r → (w : List Symbol)
    → length w ≡ length r.body → IsShapeFor (length w) (shape_by r.making w)
rules_fit (end before ws over) k r at w long = absurd cc
rules_fit (rule before l ws behind rest x rs ss follows body h) zero r at w long =
    let same : x ≡ r = cc in
    subst (λ y. length w ≡ length y.body → IsShapeFor (length w) (shape_by y.making w)) same
    (λ as_long. end_fits (length x.body) body.body_end w as_long) long
rules_fit (rule before l ws behind rest x rs ss follows body h) (suc k) r at w long = rules_fit h k r at w long
rules_fit (semicolon l ws rs ss h) k r at w long = rules_fit h k r at w long

-- what a rule of the grammar is joined from
pub record IsJoinedAt (m : SymbolTable) (rs : List Ruling) (notes : List Note) (k : ℕ) (x : GrammarRule) : Type 0 where
  pub ruling : Ruling
  pub note : Note
  pub is_ruling : slice_get rs k ≡ Some ruling
  pub is_note : slice_get notes k ≡ Some note
  pub joined : IsJoinedRule m ruling x note

pub joined_at : (m : SymbolTable) (rs : List Ruling) (rules : List GrammarRule) (notes : List Note)
    → AreJoined m rs rules notes → (k : ℕ) (x : GrammarRule) → slice_get rules k ≡ Some x → IsJoinedAt m rs notes k x
joined_at m [] [] [] all k x at = absurd cc
joined_at m [] [] (n ∷ notes) all k x at = absurd all
joined_at m [] (g ∷ rules) notes all k x at = absurd all
joined_at m (r ∷ rs) [] notes all k x at = absurd all
joined_at m (r ∷ rs) (g ∷ rules) [] all k x at = absurd all
joined_at m (r ∷ rs) (g ∷ rules) (n ∷ notes) all zero x at =
    let same : g ≡ x = cc in
    record {
      ruling = r;
      note = n;
      is_ruling = refl;
      is_note = refl;
      joined = subst (λ y. IsJoinedRule m r y n) same all.0;
    }
joined_at m (r ∷ rs) (g ∷ rules) (n ∷ notes) all (suc k) x at =
    let later = joined_at m rs rules notes all.1 k x at in
    record {
      ruling = later.ruling;
      note = later.note;
      is_ruling = later.is_ruling;
      is_note = later.is_note;
      joined = later.joined;
    }

pub shapes_are_within : ShapesAreWithin
shapes_are_within bytes x w s text joined zero r le is = absurd (omega (arith, le))
shapes_are_within bytes x w s text joined (suc k) r le is =
    let listed : slice_get (map Some joined.rules) k ≡ Some (Some r)
    = subst (λ g. slice_get g.rules (suc k) ≡ Some (Some r)) joined.grammar is in
    let at : slice_get joined.rules k ≡ Some r
    = there (slice_get joined.rules k) (sym (slice_get-map Some joined.rules k) ∙ listed) in
    let from = joined_at (table_of s) w.rules joined.rules joined.notes joined.joined k r at in
    let long = AllZip-long _ from.ruling.body r.body from.joined.body in
    let note : slice_get s.notes (suc k) ≡ Some from.note
    = ap (λ ns. slice_get ns (suc k)) joined.all_notes ∙ from.is_note in
    subst (IsShapeFor (length r.body)) (sym (ap shape_from note ∙ from.joined.shape))
    (rules_fit text.rules k from.ruling from.is_ruling r.body long)
  where
    there : (o : Option GrammarRule) → option_map Some o ≡ Some (Some r) → o ≡ Some r
    there None e = absurd cc
    there (Some y) e = cc
