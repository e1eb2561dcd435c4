-- Tokens that tables read, one list behind another, and where they stop.
use Rattle.std.proofs.Common.{◌≡◌, ℕ, List, ◌∷◌, ◌++◌, ap₂, refl, subst, sym}
use Rattle.ly_base.specs.Lexed.{Token}
use Rattle.ly_pack.specs.Machine.{Machine}
use Rattle.ly_parse.specs.Feeding.{Fed, Feeds, Level, pushed}
use Rattle.ly_parse.specs.FeedingLaws.{FeedsInOneWay}
use Rattle.ly_parse.specs.Reading.{ReadsTokens, at_end, onward}

-- more is read behind what is read
pub reads_on : {m : Machine} {a b c : List Level} {xs ys : List (Token ℕ)} → ReadsTokens m a xs b → ReadsTokens m b ys c
    → ReadsTokens m a (xs ++ ys) c
reads_on at_end more = more
reads_on (onward first others) more = onward first (reads_on others more)

-- the first of some tokens is read, and then the others
first_read : {m : Machine} {a c : List Level} {x : Token ℕ} {xs : List (Token ℕ)} → ReadsTokens m a (x ∷ xs) c
    → (b : List Level) × Feeds m x a (pushed b) × ReadsTokens m b xs c
first_read (onward {next = b} first others) = (b, first, others)

-- a token is read in one way
one_next : {m : Machine} {a : List Level} (x y : Token ℕ) (b c : List Level) → FeedsInOneWay → x ≡ y
    → Feeds m x a (pushed b) → Feeds m y a (pushed c) → c ≡ b
one_next {m} {a} x y b c way same first second =
    let both = way m x a (pushed b) (pushed c) first (subst (λ z. Feeds m z a (pushed c)) (sym same) second) in
    let levels : c ≡ b = cc in levels

-- of all that is read, what is read behind a beginning
pub reads_behind : {m : Machine} {a b c : List Level} {xs : List (Token ℕ)} (ys : List (Token ℕ)) → FeedsInOneWay
    → ReadsTokens m a xs b → ReadsTokens m a (xs ++ ys) c → ReadsTokens m b ys c
reads_behind ys way at_end all = all
reads_behind {m} {c = c} ys way (onward {next = n} {token = x} {tokens = xs} first others) all =
    let it = first_read all in
    reads_behind ys way others
    (subst (λ s. ReadsTokens m s (xs ++ ys) c) (one_next x x n it.0 way refl first it.1) it.2)

-- a parse stops with the token
abbrev pub IsStop : Fed → Type 0
IsStop (pushed next) = ⊥
IsStop _ = Unit {0}

-- tables stop at one token, in one way
pub one_stop : {m : Machine} {a b c : List Level} {xs ys : List (Token ℕ)} (t u : Token ℕ) (zs ws : List (Token ℕ))
    (out other : Fed) → FeedsInOneWay → ReadsTokens m a xs b → Feeds m t b out → IsStop out → ReadsTokens m a ys c
    → Feeds m u c other → IsStop other → xs ++ t ∷ zs ≡ ys ++ u ∷ ws
    → (xs ≡ ys) × (t ≡ u) × (out ≡ other) × (b ≡ c)
one_stop {m} {a} t u zs ws out other way at_end f stop at_end g stops e =
    let same : t ≡ u = cc in
    (refl, same, way m t a out other f (subst (λ x. Feeds m x a other) (sym same) g), refl)
one_stop {m} {a} t u zs ws out other way at_end f stop (onward {next = n} {token = y} first more) g stops e =
    let same : t ≡ y = cc in
    absurd (subst IsStop (way m t a out (pushed n) f (subst (λ x. Feeds m x a (pushed n)) (sym same) first)) stop)
one_stop {m} {a} t u zs ws out other way (onward {next = n} {token = x} first more) f stop at_end g stops e =
    let same : u ≡ x = cc in
    absurd (subst IsStop (way m u a other (pushed n) g (subst (λ y. Feeds m y a (pushed n)) (sym same) first)) stops)
one_stop {m} {a} {c = c} t u zs ws out other way (onward {next = n} {token = x} {tokens = xs} first more) f stop
    (onward {next = k} {token = y} {tokens = ys} second others) g stops e =
    let same : x ≡ y = cc in
    let tails : xs ++ t ∷ zs ≡ ys ++ u ∷ ws = cc in
    let both = way m x a (pushed n) (pushed k) first (subst (λ z. Feeds m z a (pushed k)) (sym same) second) in
    let levels : n ≡ k = cc in
    let on = one_stop t u zs ws out other way more f stop
    (subst (λ s. ReadsTokens m s ys c) (sym levels) others) g stops
    tails in
    (ap₂ (λ z zs. z ∷ zs) same on.0, on.1, on.2, on.3)

-- they read no token at which they stop
pub not_all_read : {m : Machine} {a b c : List Level} {xs ys : List (Token ℕ)} (t : Token ℕ) (zs : List (Token ℕ))
    (out : Fed) → FeedsInOneWay → ReadsTokens m a xs b → Feeds m t b out → IsStop out → ReadsTokens m a ys c
    → xs ++ t ∷ zs ≡ ys → ⊥
not_all_read t zs out way at_end f stop at_end e = cc
not_all_read t zs out way (onward first more) f stop at_end e = cc
not_all_read {m} {a} t zs out way at_end f stop (onward {next = n} {token = y} first more) e =
    let same : t ≡ y = cc in
    subst IsStop (way m t a out (pushed n) f (subst (λ x. Feeds m x a (pushed n)) (sym same) first)) stop
not_all_read {m} {a} {c = c} t zs out way (onward {next = n} {token = x} {tokens = xs} first more) f stop
    (onward {next = k} {token = y} {tokens = ys} second others) e =
    let same : x ≡ y = cc in
    let tails : xs ++ t ∷ zs ≡ ys = cc in
    let both = way m x a (pushed n) (pushed k) first (subst (λ z. Feeds m z a (pushed k)) (sym same) second) in
    let levels : n ≡ k = cc in
    not_all_read t zs out way more f stop (subst (λ s. ReadsTokens m s ys c) (sym levels) others) tails

-- Tables that stop at a token behind what is read of a beginning have read these between.
pub record StopsBehind (m : Machine) (b last : List Level) (xs zs before : List (Token ℕ)) (t : Token ℕ)
    (behind : List (Token ℕ)) : Type 0 where
  pub between : List (Token ℕ)
  pub whole : before ≡ xs ++ between
  pub reads : ReadsTokens m b between last
  pub split : zs ≡ between ++ t ∷ behind

pub stops_behind : {m : Machine} {a b last : List Level} {xs before : List (Token ℕ)} (t : Token ℕ)
    (zs behind : List (Token ℕ)) (out : Fed) → FeedsInOneWay → ReadsTokens m a xs b → ReadsTokens m a before last
    → Feeds m t last out → IsStop out → xs ++ zs ≡ before ++ t ∷ behind → StopsBehind m b last xs zs before t behind
stops_behind {before = before} t zs behind out way at_end all f stop e
    = record { between = before; whole = refl; reads = all; split = e }
stops_behind {m} {a} t zs behind out way (onward {next = n} {token = x} first others) at_end f stop e =
    let same : t ≡ x = cc in
    absurd (subst IsStop (way m t a out (pushed n) f (subst (λ y. Feeds m y a (pushed n)) (sym same) first)) stop)
stops_behind {m} {a} {last = last} t zs behind out way (onward {next = n} {token = x} {tokens = xs} first others)
    (onward {next = k} {token = y} {tokens = ys} second rest) f stop e =
    let same : x ≡ y = cc in
    let tails : xs ++ zs ≡ ys ++ t ∷ behind = cc in
    let on = stops_behind t zs behind out way others
    (subst (λ s. ReadsTokens m s ys last) (one_next x y n k way same first second) rest) f stop tails in
    record {
      between = on.between;
      whole = cc on.whole;
      reads = on.reads;
      split = on.split;
    }
