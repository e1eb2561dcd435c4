-- The code of a plain expression reads exactly its strings.
use Rattle.std.proofs.Common.{◌≡◌, inl, inr, ◌⊎◌, ℕ, zero, suc, ◌+◌, ◌-◌, ◌<◌, ◌≤◌, List, [], ◌∷◌, ◌++◌, refl, sym, ap}
use Rattle.std.proofs.Common.{subst, ◌∙◌, arith, Some, append_assoc, add-zero, zero-add}
use Rattle.std.specs.Prelude.{slice_get, Contains}
use Rattle.ly_ere.specs.Expression.{Expression, set, empty, concat, either, star, plus, optional, repeat, name}
use Rattle.ly_ere.specs.Expression.{MatchesUnder, Concatenated}
use Rattle.ly_position.specs.Private.Program.{ProgramStep, reads, fork, ends, Runs, at_end, by_read, by_first}
use Rattle.ly_position.specs.Private.Program.{by_second, size}
use Rattle.ly_position.specs.Private.Program.{entry, HasCode, IsPlainExpression}

-- where code begins
entry_some : (base n next : ℕ) → 0 < n → entry base n next ≡ base + (n - 1)
entry_some base zero next h = absurd (omega arith)
entry_some base (suc n) next h = omega arith

pub entry_last : (base n next : ℕ) → entry base (n + 1) next ≡ base + n
entry_last base n next = entry_some base (n + 1) next (omega arith) ∙ omega arith

pub entry_both : (base a b next : ℕ) → entry base (a + b) next ≡ entry (base + b) a (entry base b next)
entry_both base zero b next = rw zero-add refl
entry_both base (suc a) b next = entry_some base (suc a + b) next (omega arith) ∙ omega arith

pub entry_plus : (base n : ℕ) → entry (base + 1) n base ≡ base + n
entry_plus base zero = sym (add-zero base)
entry_plus base (suc n) = omega arith

pub entry_below : (base n next m : ℕ) → base + n ≤ m → next < m → entry base n next < m
entry_below base zero next m l h = h
entry_below base (suc n) next m l h = omega arith

pub entry_from : (base n next lo : ℕ) → lo ≤ base → lo ≤ next → lo ≤ entry base n next
entry_from base zero next lo l h = h
entry_from base (suc n) next lo l h = omega arith

module _ (g : List ProgramStep) (i : ℕ) where
  -- a run that begins at a fork goes on at one of its sides
  pub at_fork : (n p a b : ℕ) (w : List ℕ) → slice_get g p ≡ Some (fork a b) → Runs g i n p w → (m : ℕ) × (n ≡ suc m)
      × (Runs g i m a w ⊎ Runs g i m b w)
  at_fork n p a b w h (at_end k) = cc
  at_fork n p a b w h (by_read k c r) = cc
  at_fork n p a b w h (by_first {n = m} {a = x} {b = y} k r) = let e : x ≡ a = cc
      in (m, refl, inl (subst (λ q. Runs g i m q w) e r))
  at_fork n p a b w h (by_second {n = m} {a = x} {b = y} k r) = let e : y ≡ b = cc
      in (m, refl, inr (subst (λ q. Runs g i m q w) e r))

  -- a run that begins at a read goes on after it
  pub at_read : (n p q : ℕ) (bytes w : List ℕ) → slice_get g p ≡ Some (reads bytes q) → Runs g i n p w
      → (m : ℕ) × (b : ℕ) × (v : List ℕ) × (n ≡ suc m) × (w ≡ b ∷ v) × Contains bytes b × Runs g i m q v
  at_read n p q bytes w h (at_end k) = cc
  at_read n p q bytes w h (by_read {n = m} {b = b} {q = x} {bytes = bs} {w = v} k c r) =
      let e : bs ≡ bytes = cc in let f : x ≡ q = cc
      in (m, b, v, refl, refl, subst (λ l. Contains l b) e c, subst (λ z. Runs g i m z v) f r)
  at_read n p q bytes w h (by_first k r) = cc
  at_read n p q bytes w h (by_second k r) = cc

  -- a run that begins at an end is over, and of its rule
  pub at_stop : (n p j : ℕ) (w : List ℕ) → slice_get g p ≡ Some (ends j) → Runs g i n p w → (i ≡ j) × (w ≡ [])
  at_stop n p j w h (at_end k) = (cc, refl)
  at_stop n p j w h (by_read k c r) = cc
  at_stop n p j w h (by_first k r) = cc
  at_stop n p j w h (by_second k r) = cc

  -- a run of w, of at most n moves, that comes to next after a string of L
  pub record Split (L : List ℕ → Type 0) (next n : ℕ) (w : List ℕ) : Type 0 where
    pub front : List ℕ
    pub back : List ℕ
    pub moves : ℕ
    pub is : w ≡ front ++ back
    pub fewer : moves ≤ n
    pub fits : L front
    pub goes : Runs g i moves next back

  -- the same for a greater set and a greater bound
  weaker : (L M : List ℕ → Type 0) (next m n : ℕ) (w : List ℕ) → ((u : List ℕ) → L u → M u) → m ≤ n → Split L next m w
      → Split M next n w
  weaker L M next m n w f le x = record {
    front = x.front;
    back = x.back;
    moves = x.moves;
    is = x.is;
    fewer = omega (arith, x.fewer);
    fits = f x.front x.fits;
    goes = x.goes;
  }

  -- a string of L and then one of M
  abbrev pub Then : (List ℕ → Type 0) → (List ℕ → Type 0) → List ℕ → Type 0
  Then L M w = (u : List ℕ) × (v : List ℕ) × (w ≡ u ++ v) × L u × M v

  both : (L M : List ℕ → Type 0) (middle next n : ℕ) (w : List ℕ) → (x : Split L middle n w)
      → Split M next x.moves x.back → Split (Then L M) next n w
  both L M middle next n w x y = record {
    front = x.front ++ y.front;
    back = y.back;
    moves = y.moves;
    is = x.is ∙ (ap (λ z. x.front ++ z) y.is ∙ sym (append_assoc x.front y.front y.back));
    fewer = omega (arith, x.fewer, y.fewer);
    fits = (x.front, y.front, refl, x.fits, y.fits);
    goes = y.goes;
  }

  none : (L : List ℕ → Type 0) (next m n : ℕ) (w : List ℕ) → L [] → m ≤ n → Runs g i m next w → Split L next n w
  none L next m n w l le r = record { front = []; back = w; moves = m; is = refl; fewer = le; fits = l; goes = r }

  -- a run of w that comes to next after k strings of L
  pub record Repeats (L : List ℕ → Type 0) (next n : ℕ) (w : List ℕ) : Type 0 where
    pub times : ℕ
    pub split : Split (Concatenated L times) next n w

  once_more : (L : List ℕ → Type 0) (p next m n : ℕ) (w : List ℕ) → m ≤ n → (x : Split L p m w)
      → Repeats L next x.moves x.back → Repeats L next n w
  once_more L p next m n w le x y
      = record {
        times = suc y.times;
        split = weaker (Then L (Concatenated L y.times)) (Concatenated L (suc y.times)) next m n w
            (λ u h. h) le (both L (Concatenated L y.times) p next m w x y.split);
      }

  -- round a fork whose first side reads a string of L and comes back
  around : (L : List ℕ → Type 0) (p a next : ℕ) → slice_get g p ≡ Some (fork a next)
      → ((n : ℕ) (w : List ℕ) → Runs g i n a w → Split L p n w) → (f n : ℕ) (w : List ℕ) → n ≤ f → Runs g i n p w
      → Repeats L next n w
  around L p a next h inner zero n w less r = let s = at_fork n p a next w h r in absurd (omega (arith, s.1))
  around L p a next h inner (suc f) n w less r = next_move (λ m v l q. around L p a next h inner f m v l q)
      (at_fork n p a next w h r)
    where
      next_move : ((m : ℕ) (v : List ℕ) → m ≤ f → Runs g i m p v → Repeats L next m v) → (m : ℕ) × (n ≡ suc m)
          × (Runs g i m a w ⊎ Runs g i m next w) → Repeats L next n w
      next_move again (m, e, inl q) = let s : Split L p m w = inner m w q
          in once_more L p next m n w (omega arith) s (again s.moves s.back (omega (arith, s.fewer)) s.goes)
      next_move again (m, e, inr q)
          = record { times = zero; split = none (Concatenated L zero) next m n w refl (omega arith) q }

  module _ (N : ℕ → List ℕ → Type 0) where
    -- the code reads only strings of the expression
    pub sound : (e : Expression) (base next n : ℕ) (w : List ℕ) → IsPlainExpression e → HasCode g e base next
        → Runs g i n (entry base (size e) next) w → Split (MatchesUnder N e) next n w
    sound (set bytes) base next n w plain h r =
        let s = at_read n base next bytes w h (subst (λ q. Runs g i n q w) (add-zero base) r) in
        record {
          front = s.1 ∷ [];
          back = s.2;
          moves = s.0;
          is = s.4;
          fewer = omega (arith, s.3);
          fits = (s.1, s.5, refl);
          goes = s.6;
        }
    sound empty base next n w plain h r = none (MatchesUnder N empty) next n n w refl (omega arith) r
    sound (concat r s) base next n w plain h run =
        let first : Split (MatchesUnder N r) (entry base (size s) next) n w
        = sound r (base + size s) (entry base (size s) next) n w plain.0 h.1
        (subst (λ q. Runs g i n q w) (entry_both base (size r) (size s) next) run) in
        both (MatchesUnder N r) (MatchesUnder N s) (entry base (size s) next) next n w first
        (sound s base next first.moves first.back plain.1 h.0 first.goes)
    sound (either r s) base next n w plain h run =
        side (λ m q. sound r base next m w plain.0 h.0 q) (λ m q. sound s (base + size r) next m w plain.1 h.1 q)
        (at_fork n (base + size r + size s) (entry base (size r) next) (entry (base + size r) (size s) next) w h.2
        (subst (λ q. Runs g i n q w) (entry_last base (size r + size s) next ∙ omega arith) run))
      where
        side : ((m : ℕ) → Runs g i m (entry base (size r) next) w → Split (MatchesUnder N r) next m w)
            → ((m : ℕ) → Runs g i m (entry (base + size r) (size s) next) w → Split (MatchesUnder N s) next m w)
            → (m : ℕ) × (n ≡ suc m)
            × (Runs g i m (entry base (size r) next) w ⊎ Runs g i m (entry (base + size r) (size s) next) w)
            → Split (MatchesUnder N (either r s)) next n w
        side f k (m, e, inl q) = weaker (MatchesUnder N r) (MatchesUnder N (either r s)) next m n w (λ u h. inl h)
            (omega arith) (f m q)
        side f k (m, e, inr q) = weaker (MatchesUnder N s) (MatchesUnder N (either r s)) next m n w (λ u h. inr h)
            (omega arith) (k m q)
    sound (star r) base next n w plain h run =
        let x : Repeats (MatchesUnder N r) next n w
        = around (MatchesUnder N r) (base + size r) (entry base (size r) (base + size r)) next h.1
        (λ m v q. sound r base (base + size r) m v plain h.0 q) n n w (omega arith)
        (subst (λ q. Runs g i n q w) (entry_last base (size r) next) run) in
        weaker (Concatenated (MatchesUnder N r) x.times) (MatchesUnder N (star r)) next n n w (λ u h. (x.times, h))
        (omega arith) x.split
    sound (plus r) base next n w plain h run =
        let first : Split (MatchesUnder N r) base n w
        = sound r (base + 1) base n w plain h.1
        (subst (λ q. Runs g i n q w) (entry_last base (size r) next ∙ sym (entry_plus base (size r))) run) in
        let more : Repeats (MatchesUnder N r) next first.moves first.back
        = around (MatchesUnder N r) base (entry (base + 1) (size r) base) next h.0
        (λ m v q. sound r (base + 1) base m v plain h.1 q) first.moves first.moves first.back
        (omega arith) first.goes in
        let all : Repeats (MatchesUnder N r) next n w
        = once_more (MatchesUnder N r) base next n n w (omega arith) first more in
        weaker (Then (MatchesUnder N r) (Concatenated (MatchesUnder N r) more.times))
        (MatchesUnder N (plus r)) next n n w
        (λ u h. (suc more.times, omega arith, h)) (omega arith)
        (both (MatchesUnder N r) (Concatenated (MatchesUnder N r) more.times) base next n w first more.split)
    sound (optional r) base next n w plain h run =
        side (λ m q. sound r base next m w plain h.0 q) (at_fork n (base + size r) (entry base (size r) next) next w h.1
        (subst (λ q. Runs g i n q w) (entry_last base (size r) next) run))
      where
        side : ((m : ℕ) → Runs g i m (entry base (size r) next) w → Split (MatchesUnder N r) next m w)
            → (m : ℕ) × (n ≡ suc m) × (Runs g i m (entry base (size r) next) w ⊎ Runs g i m next w)
            → Split (MatchesUnder N (optional r)) next n w
        side f (m, e, inl q) = weaker (MatchesUnder N r) (MatchesUnder N (optional r)) next m n w (λ u h. inr h)
            (omega arith) (f m q)
        side f (m, e, inr q) = none (MatchesUnder N (optional r)) next m n w (inl refl) (omega arith) q
    sound (repeat a b r) base next n w plain h run = absurd plain
    sound (name x) base next n w plain h run = absurd plain

  -- some run
  abbrev pub CanRun : ℕ → List ℕ → Type 0
  CanRun p w = (n : ℕ) × Runs g i n p w

  pub first_side : (p a b : ℕ) (w : List ℕ) → slice_get g p ≡ Some (fork a b) → CanRun a w → CanRun p w
  first_side p a b w h r = (suc r.0, by_first h r.1)

  pub second_side : (p a b : ℕ) (w : List ℕ) → slice_get g p ≡ Some (fork a b) → CanRun b w → CanRun p w
  second_side p a b w h r = (suc r.0, by_second h r.1)

  regroup : (p : ℕ) (w u v x : List ℕ) → w ≡ u ++ v → CanRun p (u ++ (v ++ x)) → CanRun p (w ++ x)
  regroup p w u v x e r = subst (λ z. CanRun p z) (sym (append_assoc u v x) ∙ ap (λ z. z ++ x) (sym e)) r

  -- round a fork as often as needed
  round : (L : List ℕ → Type 0) (p a next : ℕ) → slice_get g p ≡ Some (fork a next)
      → ((u v : List ℕ) → L u → CanRun p v → CanRun a (u ++ v)) → (k : ℕ) (u v : List ℕ) → Concatenated L k u
      → CanRun next v
      → CanRun p (u ++ v)
  round L p a next h inner zero u v j r
      = subst (λ z. CanRun p z) (ap (λ z. z ++ v) (sym j)) (second_side p a next v h r)
  round L p a next h inner (suc k) u v j r
      = first_side p a next (u ++ v) h
      (regroup a u j.0 j.1 v j.2 (inner j.0 (j.1 ++ v) j.3 (round L p a next h inner k j.1 v j.4 r)))

  module _ (N : ℕ → List ℕ → Type 0) where
    -- the code reads every string of the expression
    pub complete : (e : Expression) (base next : ℕ) (u v : List ℕ) → IsPlainExpression e → HasCode g e base next
        → MatchesUnder N e u → CanRun next v → CanRun (entry base (size e) next) (u ++ v)
    complete (set bytes) base next u v plain h m r =
        subst (λ p. CanRun p (u ++ v)) (sym (add-zero base)) (subst (λ z. CanRun base z) (ap (λ z. z ++ v) (sym m.2))
        (suc r.0, by_read h m.1 r.1))
    complete empty base next u v plain h m r = subst (λ z. CanRun next z) (ap (λ z. z ++ v) (sym m)) r
    complete (concat r s) base next u v plain h m run =
        subst (λ p. CanRun p (u ++ v)) (sym (entry_both base (size r) (size s) next))
        (regroup (entry (base + size s) (size r) (entry base (size s) next)) u m.0 m.1 v m.2
        (complete r (base + size s) (entry base (size s) next) m.0 (m.1 ++ v) plain.0 h.1 m.3
        (complete s base next m.1 v plain.1 h.0 m.4 run)))
    complete (either r s) base next u v plain h (inl m) run =
        subst (λ p. CanRun p (u ++ v)) (sym (entry_last base (size r + size s) next ∙ omega arith))
        (first_side (base + size r + size s) (entry base (size r) next) (entry (base + size r) (size s) next)
        (u ++ v) h.2 (complete r base next u v plain.0 h.0 m run))
    complete (either r s) base next u v plain h (inr m) run =
        subst (λ p. CanRun p (u ++ v)) (sym (entry_last base (size r + size s) next ∙ omega arith))
        (second_side (base + size r + size s) (entry base (size r) next) (entry (base + size r) (size s) next)
        (u ++ v) h.2 (complete s (base + size r) next u v plain.1 h.1 m run))
    complete (star r) base next u v plain h m run =
        subst (λ p. CanRun p (u ++ v)) (sym (entry_last base (size r) next))
        (round (MatchesUnder N r) (base + size r) (entry base (size r) (base + size r)) next h.1
        (λ x y l q. complete r base (base + size r) x y plain h.0 l q) m.0 u v m.1 run)
    complete (plus r) base next u v plain h (zero, le, m) run = absurd (omega (arith, le))
    complete (plus r) base next u v plain h (suc k, le, m) run =
        subst (λ p. CanRun p (u ++ v)) (entry_plus base (size r) ∙ sym (entry_last base (size r) next))
        (regroup (entry (base + 1) (size r) base) u m.0 m.1 v m.2
        (complete r (base + 1) base m.0 (m.1 ++ v) plain h.1 m.3
        (round (MatchesUnder N r) base (entry (base + 1) (size r) base) next h.0
        (λ x y l q. complete r (base + 1) base x y plain h.1 l q) k m.1 v m.4 run)))
    complete (optional r) base next u v plain h (inl m) run =
        subst (λ p. CanRun p (u ++ v)) (sym (entry_last base (size r) next))
        (second_side (base + size r) (entry base (size r) next) next (u ++ v) h.1
        (subst (λ z. CanRun next z) (ap (λ z. z ++ v) (sym m)) run))
    complete (optional r) base next u v plain h (inr m) run =
        subst (λ p. CanRun p (u ++ v)) (sym (entry_last base (size r) next))
        (first_side (base + size r) (entry base (size r) next) next (u ++ v) h.1
        (complete r base next u v plain h.0 m run))
    complete (repeat a b r) base next u v plain h m run = absurd plain
    complete (name x) base next u v plain h m run = absurd plain
