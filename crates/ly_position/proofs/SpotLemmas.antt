-- Runs over the positions of rules read their strings.
use Rattle.std.proofs.Common.{◌≡◌, inl, inr, ℕ, ◌<◌, List, [], ◌∷◌, ◌++◌, length, Bool, Option, Some, None}
use Rattle.std.proofs.Common.{refl, sym, ap, subst, ◌∙◌, append_assoc, append-nil}
use Rattle.std.specs.Prelude.{◌↔◌, Contains, slice_get}
use Rattle.ly_ere.specs.Expression.{Expression}
use Rattle.ly_ere.specs.Winner.{InTail, IsActive, IsString, PatternMatches}
use Rattle.ly_ere.specs.declared.pattern.Pattern.{Pattern}
use Rattle.ly_ere.specs.declared.pattern.Rule.{Rule}
use Rattle.ly_position.specs.Nfa.{Nfa, IsEnd, RunsTo, ComesTo, starts_of}
use Rattle.ly_position.specs.Patterns.{RunsFrom}
use Rattle.ly_position.specs.Written.{Plain, Member, pattern_written, with_tail, written}
use Rattle.ly_position.specs.Numbered.{numbered, set_at, set_count, Path, ComesFirst, ComesAfter}
use Rattle.ly_position.specs.Numbered.{IsReadAlong}
use Rattle.ly_position.specs.Spots.{Spot, IsNext, ArePositionsOf}
use Rattle.ly_position.specs.Laws.{ReadsAlong, PathsChangeOver, PositionsSpell, PositionsComeNext, PositionsLive}
use Rattle.ly_position.proofs.NumberedLemmas.{agrees, numbering, unnumbered, some_bytes, path_over, path_end}
use Rattle.ly_position.proofs.SplitLemmas.{split, alone, zip_parts}
use Rattle.ly_position.proofs.WrittenLemmas.{written_matches}

pub reads_along : ReadsAlong
reads_along r w
    = (λ h. numbering (set_at r) r 0 w (agrees r) h, λ h. unnumbered (set_at r) r 0 h.0 w (agrees r) h.1 h.2)

pub paths_change_over : PathsChangeOver
paths_change_over r k us vs xs ys p q = path_over r k us vs xs ys p q

-- a rule's strings are those of its pattern written out
with_tail_matches : (names : List Expression) (head : Expression) (tail : Option Expression) (w : List ℕ)
    → Member (with_tail names (written names head) tail) w
    ↔ ((u : List ℕ) × (v : List ℕ) × (w ≡ u ++ v) × Member (written names head) u × InTail names tail v)
with_tail_matches names head None w = (
  λ h. (w, [], sym (append-nil w), h, refl),
  λ h. subst (Member (written names head)) (sym (h.2 ∙ (ap (λ z. h.0 ++ z) h.4 ∙ append-nil h.0))) h.3,
)
with_tail_matches names head (Some tail) w = (
  λ h. (h.0, h.1, h.2, h.3, (written_matches names tail h.1).1 h.4),
  λ h. (h.0, h.1, h.2, h.3, (written_matches names tail h.1).0 h.4),
)

pattern_matches : (names : List Expression) (p : Pattern) (w : List ℕ) → Member (pattern_written names p) w
    ↔ PatternMatches names p w
pattern_matches names p w =
    let a = with_tail_matches names p.head p.tail w in (
      λ h. let b = a.0 h in (b.0, b.1, b.2, (written_matches names p.head b.0).1 b.3, b.4),
      λ h. a.1 (h.0, h.1, h.2, (written_matches names p.head h.0).0 h.3, h.4),
    )

pub same_spot : (s t : Spot) → s.rule ≡ t.rule → s.number ≡ t.number → s ≡ t
same_spot s t a b = λ x. record { rule = a x; number = b x }

module _ (names : List Expression) (rules : List Rule) (conditions : ℕ) (nfa : Nfa) (spot : ℕ → Spot)
    (all : ArePositionsOf names rules conditions nfa spot) where
  abbrev plain_of : Rule → Plain
  plain_of r = pattern_written names r.pattern

  -- where a run from position p stands, which comes after the numbers js on a path of rule i
  record Along (i : ℕ) (r : Rule) (js : List ℕ) (w : List ℕ) (q : ℕ) : Type 0 where
    within : q < length nfa.positions
    of_rule : (spot q).rule ≡ i
    more : List ℕ
    rest : List ℕ
    path : Path (plain_of r) ((js ++ more) ++ (spot q).number ∷ rest)
    reads : IsReadAlong (plain_of r) more w

  along : (i : ℕ) (r : Rule) → slice_get rules i ≡ Some r → (w : List ℕ) (p q : ℕ) (js ks : List ℕ)
      → p < length nfa.positions → (spot p).rule ≡ i → Path (plain_of r) (js ++ (spot p).number ∷ ks)
      → ComesTo nfa p w q → Along i r js w q
  along i r is [] p q js ks less at path run = subst (λ z. Along i r js [] z) run (record {
    within = less;
    of_rule = at;
    more = [];
    rest = ks;
    path = subst (λ z. Path (plain_of r) (z ++ (spot p).number ∷ ks)) (sym (append-nil js)) path;
    reads = tt;
  })
  along i r is (b ∷ w) p q js ks less at path run =
      let s = run.0 in
      let k = (spot p).number in
      let here : slice_get rules (spot p).rule ≡ Some r = subst (λ z. slice_get rules z ≡ Some r) (sym at) is in
      let within = all.follow_within p s run.2 in
      let f = (all.follows p s r less within here).0 run.2 in
      let changed = path_over (plain_of r) k js ks f.1.0 ((spot s).number ∷ f.1.1) path f.1.2 in
      let a = along i r is w s q (js ++ k ∷ []) f.1.1 within (f.0 ∙ at)
      (subst (Path (plain_of r)) (sym (append_assoc js (k ∷ []) ((spot s).number ∷ f.1.1))) changed) run.3 in
      record {
        within = a.within;
        of_rule = a.of_rule;
        more = k ∷ a.more;
        rest = a.rest;
        path = subst (λ z. Path (plain_of r) (z ++ (spot q).number ∷ a.rest)) (append_assoc js (k ∷ []) a.more) a.path;
        reads = ((all.reads p b r less here).0 run.1, a.reads);
      }

  -- the first of some numbers and another
  abbrev first_of_path : List ℕ → ℕ → ℕ
  first_of_path [] l = l
  first_of_path (k ∷ ks) l = k

  abbrev rest_of_path : List ℕ → ℕ → List ℕ → List ℕ
  rest_of_path [] l zs = zs
  rest_of_path (k ∷ ks) l zs = ks ++ l ∷ zs

  in_front : (us : List ℕ) (l : ℕ) (zs : List ℕ) → us ++ l ∷ zs ≡ first_of_path us l ∷ rest_of_path us l zs
  in_front [] l zs = refl
  in_front (k ∷ ks) l zs = refl

  -- a position of a number on a path
  record At (i k : ℕ) : Type 0 where
    place : ℕ
    within : place < length nfa.positions
    of_rule : (spot place).rule ≡ i
    is : (spot place).number ≡ k

  at_spot : (i : ℕ) (r : Rule) → slice_get rules i ≡ Some r → (k : ℕ) (js ks : List ℕ)
      → Path (plain_of r) (js ++ k ∷ ks) → At i k
  at_spot i r is k js ks path =
      let found = all.each (record { rule = i; number = k }) (r, is, (js, ks, path)) in
      record {
        place = found.0;
        within = found.1;
        of_rule = ap (λ (z : Spot). z.rule) found.2;
        is = ap (λ (z : Spot). z.number) found.2;
      }

  -- a path is gone along by a run
  run_along : (i : ℕ) (r : Rule) → slice_get rules i ≡ Some r → (us : List ℕ) (l : ℕ) (zs w js : List ℕ) (p q : ℕ)
      → p < length nfa.positions → q < length nfa.positions → (spot p).rule ≡ i → (spot q).rule ≡ i
      → (spot p).number ≡ first_of_path us l → (spot q).number ≡ l → Path (plain_of r) (js ++ (us ++ l ∷ zs))
      → IsReadAlong (plain_of r) us w → ComesTo nfa p w q
  run_along i r is [] l zs [] js p q less last at to e f path h
      = all.once p q less last (same_spot (spot p) (spot q) (at ∙ sym to) (e ∙ sym f))
  run_along i r is [] l zs (b ∷ w) js p q less last at to e f path h = absurd h
  run_along i r is (k ∷ us) l zs [] js p q less last at to e f path h = absurd h
  run_along i r is (k ∷ us) l zs (b ∷ w) js p q less last at to e f path h =
      let here : slice_get rules (spot p).rule ≡ Some r = subst (λ z. slice_get rules z ≡ Some r) (sym at) is in
      let m = first_of_path us l in
      let ms = rest_of_path us l zs in
      let side : Path (plain_of r) (js ++ k ∷ m ∷ ms)
      = subst (λ z. Path (plain_of r) (js ++ k ∷ z)) (in_front us l zs) path in
      let on : Path (plain_of r) ((js ++ k ∷ []) ++ (us ++ l ∷ zs))
      = subst (Path (plain_of r)) (sym (append_assoc js (k ∷ []) (us ++ l ∷ zs))) path in
      let s = at_spot i r is m (js ++ k ∷ []) ms
      (subst (λ z. Path (plain_of r) ((js ++ k ∷ []) ++ z)) (in_front us l zs) on) in
      let after : ComesAfter (plain_of r) (spot p).number (spot s.place).number = (
        js,
        ms,
        subst (λ z. Path (plain_of r) (js ++ z ∷ (spot s.place).number ∷ ms)) (sym e)
            (subst (λ z. Path (plain_of r) (js ++ k ∷ z ∷ ms)) (sym s.is) side),
      ) in (
        s.place,
        (all.reads p b r less here).1 (subst (λ z. Contains (set_at (plain_of r) z) b) (sym e) h.0),
        (all.follows p s.place r less s.within here).1 (s.of_rule ∙ sym at, after),
        run_along i r is us l zs w (js ++ k ∷ []) s.place q s.within last s.of_rule to s.is f on h.1,
      )

  -- a run to an end mark, in its parts
  record Parts (i p : ℕ) (w : List ℕ) : Type 0 where
    last : ℕ
    within : last < length nfa.positions
    before : ComesTo nfa p w last
    ends : IsEnd nfa last i

  parts : (i : ℕ) (w : List ℕ) (p : ℕ) → p < length nfa.positions → RunsTo nfa i p w → Parts i p w
  parts i [] p less h = record { last = p; within = less; before = refl; ends = h }
  parts i (b ∷ w) p less h =
      let a = parts i w h.0 (all.follow_within p h.0 h.2) h.3 in
      record { last = a.last; within = a.within; before = (h.0, h.1, h.2, a.before); ends = a.ends }

  whole : (i : ℕ) (w : List ℕ) (p q : ℕ) → ComesTo nfa p w q → IsEnd nfa q i → RunsTo nfa i p w
  whole i [] p q h e = subst (λ z. IsEnd nfa z i) (sym h) e
  whole i (b ∷ w) p q h e = (h.0, h.1, h.2, whole i w h.0 q h.3 e)

  -- where a run from a start position stands
  record Begun (c : ℕ) (line : Bool) (w : List ℕ) (q : ℕ) : Type 0 where
    rule : Rule
    active : IsActive rules c line (spot q).rule rule
    goes : Along (spot q).rule rule [] w q

  begun : (c : ℕ) (line : Bool) (w : List ℕ) (p q : ℕ) → c < conditions → Contains (starts_of nfa c line) p
      → ComesTo nfa p w q → Begun c line w q
  begun c line w p q known h run =
      let less = all.starts_within c line p h in
      let s = all.is_spot p less in
      let begin = (all.starts c line p s.0 known less s.1).0 h in
      let a = along (spot p).rule s.0 s.1 w p q [] begin.1.0 less refl begin.1.1 run in
      let back : (spot p).rule ≡ (spot q).rule = sym a.of_rule in
      record {
        rule = s.0;
        active = subst (λ z. IsActive rules c line z s.0) back begin.0;
        goes = subst (λ z. Along z s.0 [] w q) back a;
      }

  -- runs over w from the start positions stand before the spots that can come next after it
  pub come_next : (c : ℕ) (line : Bool) (w : List ℕ) (q : ℕ) → c < conditions → q < length nfa.positions
      → ((p : ℕ) × Contains (starts_of nfa c line) p × ComesTo nfa p w q) ↔ IsNext names rules c line w (spot q)
  come_next c line w q known less = (
    λ h. let g = begun c line w h.0 q known h.1 h.2 in
        (g.rule, g.active, (g.goes.more, g.goes.rest, g.goes.path, g.goes.reads)),
    λ h.
        let r = h.0 in
        let i = (spot q).rule in
        let l = (spot q).number in
        let us = h.2.0 in
        let path = subst (Path (plain_of r)) (in_front us l h.2.1) h.2.2 in
        let is = h.1.is_rule in
        let s = at_spot i r is (first_of_path us l) [] (rest_of_path us l h.2.1) path in
        let here : slice_get rules (spot s.place).rule ≡ Some r
        = subst (λ z. slice_get rules z ≡ Some r) (sym s.of_rule) is in
        let first : ComesFirst (plain_of r) (spot s.place).number
        = subst (ComesFirst (plain_of r)) (sym s.is) (rest_of_path us l h.2.1, path) in (
          s.place,
          (all.starts c line s.place r known s.within here).1
              (subst (λ z. IsActive rules c line z r) (sym s.of_rule) h.1, first),
          run_along i r is us l h.2.1 w [] s.place q s.within less s.of_rule refl s.is refl h.2.2 h.2.3,
        ),
  )

  -- the end mark of a rule, as a position
  end_of : (i : ℕ) (r : Rule) → slice_get rules i ≡ Some r → (js : List ℕ) → Member (numbered (plain_of r) 0) js
      → At i (set_count (plain_of r))
  end_of i r is js m = at_spot i r is (set_count (plain_of r)) js [] (js, m, refl)

  is_end : (i : ℕ) (r : Rule) → slice_get rules i ≡ Some r → (e : At i (set_count (plain_of r)))
      → IsEnd nfa e.place i
  is_end i r is e = (all.ends e.place i r e.within (subst (λ z. slice_get rules z ≡ Some r) (sym e.of_rule) is)).1
      (e.of_rule, e.is)

  pub spells : (c : ℕ) (line : Bool) (i : ℕ) (w : List ℕ) → c < conditions
      → RunsFrom nfa c line i w ↔ IsString names rules c line i w
  spells c line i w known = (there, back)
    where
      there : RunsFrom nfa c line i w → IsString names rules c line i w
      there h =
          let a = parts i w h.0 (all.starts_within c line h.0 h.1) h.2 in
          let g = begun c line w h.0 a.last known h.1 a.before in
          let r = g.rule in
          let e = (all.ends a.last i r a.within g.active.is_rule).0 a.ends in
          let path : Path (plain_of r) (g.goes.more ++ set_count (plain_of r) ∷ g.goes.rest)
          = subst (λ z. Path (plain_of r) (g.goes.more ++ z ∷ g.goes.rest)) e.1 g.goes.path in
          let m = path_end (plain_of r) g.goes.more g.goes.rest path in
          record {
            rule = r;
            is_active = subst (λ z. IsActive rules c line z r) e.0 g.active;
            spelled = (pattern_matches names r.pattern w).0 ((reads_along (plain_of r) w).1
                (g.goes.more, m.0, g.goes.reads));
          }

      back : IsString names rules c line i w → RunsFrom nfa c line i w
      back h =
          let r = h.rule in
          let n = (reads_along (plain_of r) w).0 ((pattern_matches names r.pattern w).1 h.spelled) in
          let is = h.is_active.is_rule in
          let e = end_of i r is n.0 n.1 in
          let next : IsNext names rules c line w (spot e.place) = (
            r,
            subst (λ z. IsActive rules c line z r) (sym e.of_rule) h.is_active,
            (
              n.0,
              [],
              subst (λ z. Path (plain_of r) (n.0 ++ z ∷ [])) (sym e.is) (n.0, n.1, refl),
              n.2,
            ),
          ) in
          let run = (come_next c line w e.place known e.within).1 next in
          (run.0, run.1, whole i w run.0 e.place run.2 (is_end i r is e))

  -- each position leads to an end mark
  pub lives : (p : ℕ) → p < length nfa.positions → (i : ℕ) × (w : List ℕ) × RunsTo nfa i p w
  lives p less =
      let s = all.is_spot p less in
      let r = s.0 in
      let i = (spot p).rule in
      let k = (spot p).number in
      let h = s.2 in
      let n = set_count (plain_of r) in
      let e = end_of i r s.1 h.2.0 h.2.1 in
      elim (split h.2.0 (n ∷ []) h.0 h.1 k h.2.2) [
        | inl a ↦
            let bytes = some_bytes (set_at (plain_of r)) (plain_of r) 0 (h.0 ++ k ∷ a.more) (agrees (plain_of r))
            (subst (Member (numbered (plain_of r) 0)) a.first h.2.1) in
            let w = zip_parts (λ j b. Contains (set_at (plain_of r) j) b) h.0 (k ∷ a.more) bytes.0 bytes.1 in
            let path : Path (plain_of r) (h.0 ++ ((k ∷ a.more) ++ n ∷ []))
            = subst (λ z. Path (plain_of r) (h.0 ++ k ∷ z)) a.rest h.2 in (
              i,
              w.1,
              whole i w.1 p e.place
                  (run_along i r s.1 (k ∷ a.more) n [] w.1 h.0 p e.place less e.within refl e.of_rule refl e.is path
                  w.4) (is_end i r s.1 e),
            )
        | inr a ↦
            let b = alone a.less h.1 k n (sym a.second) in
            (i, [], (all.ends p i r less s.1).1 (refl, b.1))
      ]

pub positions_spell : PositionsSpell
positions_spell names rules conditions nfa h c line i w known
    = spells names rules conditions nfa h.0 h.1 c line i w known

pub positions_come_next : PositionsComeNext
positions_come_next names rules conditions nfa spot all c line w q known less
    = come_next names rules conditions nfa spot all c line w q known less

pub positions_live : PositionsLive
positions_live names rules conditions nfa h p less = lives names rules conditions nfa h.0 h.1 p less
