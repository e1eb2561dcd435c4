-- What symbols and tags the words begin with is determined.
use Rattle.std.proofs.Common.{◌≡◌, ℕ, List, [], ◌∷◌, ◌++◌, refl, sym, ap, ap₂, ◌∙◌, subst, inl, inr, length, ◌<◌}
use Rattle.std.proofs.Common.{◌≤◌, arith, Bool, true, eqb, eqb-true}
use Rattle.std.proofs.lemmas.List.{append-nil, append_assoc}
use Rattle.ly_yaccread.specs.File.{symbol_word, symbol_words}
use Rattle.ly_yaccread.specs.Symbols.{Listed, NoSymbol, NumberPassed, SymbolFirst, SymbolList, Symbols}
use Rattle.ly_yaccread.specs.Symbols.{TagPassed, end, more, none, one}
use Rattle.ly_yaccread.specs.Words.{Word, mark, directive, name, number, literal, block, braces, other}
use Rattle.ly_yaccread.specs.declared.file.SymbolName.{SymbolName}
use Rattle.ly_yaccread.specs.declared.listing.Listing.{Listing}
use Rattle.ly_yaccread.specs.declared.listing.Listing.TheVariants.{Plain, Numbered}

-- the word of a symbol comes first
pub symbol_is : (ws : List Word) (x : Word) (rest : List Word) → SymbolFirst ws x rest → ws ≡ x ∷ rest
symbol_is ws (mark m) rest h = absurd h
symbol_is ws (directive n) rest h = absurd h
symbol_is ws (name n) rest h = h.0.0
symbol_is ws (number ds) rest h = absurd h
symbol_is ws (literal b) rest h = h
symbol_is ws block rest h = absurd h
symbol_is ws braces rest h = absurd h
symbol_is ws other rest h = absurd h

pub heads : (x y : Word) (r s : List Word) → x ∷ r ≡ y ∷ s → (x ≡ y) × (r ≡ s)
heads x y r s e = (cc, cc)

pub symbol_one : (ws : List Word) (x y : Word) (r s : List Word) → SymbolFirst ws x r → SymbolFirst ws y s
    → (x ≡ y) × (r ≡ s)
symbol_one ws x y r s a b = heads x y r s (sym (symbol_is ws x r a) ∙ symbol_is ws y s b)

pub number_one : (l : Listing) (ws r s : List Word) → NumberPassed l ws r → NumberPassed l ws s → r ≡ s
number_one Plain ws r s a b = sym a ∙ b
number_one Numbered ws r s (inl (ds, e)) (inl (es, f)) = (heads (number ds) (number es) r s (sym e ∙ f)).1
number_one Numbered ws r s (inl (ds, e)) (inr (absent, f)) = absurd (absent ds r e)
number_one Numbered ws r s (inr (absent, e)) (inl (ds, f)) = absurd (absent ds s f)
number_one Numbered ws r s (inr (absent, e)) (inr (n, f)) = sym e ∙ f

-- how many symbols there are is determined
pub symbols_one : (ws xs ys r s : List Word) → Symbols ws xs r → Symbols ws ys s → (xs ≡ ys) × (r ≡ s)
symbols_one ws xs ys r s (end u absent) b = at_end u ys s absent b
  where
    at_end : (u ys s : List Word) → NoSymbol u → Symbols u ys s → ([] ≡ ys) × (u ≡ s)
    at_end u ys s n (end v m) = (refl, refl)
    at_end u ys s n (more v behind q x zs f h) = absurd (n x behind f)
symbols_one ws xs ys r s (more u behind q x zs f h) b
    = at_more u behind q x zs ys s f (λ vs t k. symbols_one behind zs vs q t h k) b
  where
    at_more : (u behind q : List Word) (x : Word) (zs ys s : List Word) → SymbolFirst u x behind
        → ((vs t : List Word) → Symbols behind vs t → (zs ≡ vs) × (q ≡ t)) → Symbols u ys s
        → (x ∷ zs ≡ ys) × (q ≡ s)
    at_more u behind q x zs ys s f same (end v m) = absurd (m x behind f)
    at_more u behind q x zs ys s f same (more v back t y vs k j) =
        let e = symbol_one u x y behind back f k in
        let rest = same vs t (subst (λ b. Symbols b vs t) (sym e.1) j) in
        (ap₂ ◌∷◌ e.0 rest.0, rest.1)

-- and so are those of a declaration, and where they stand
pub listed_one : (l : Listing) (ws xs ys : List Word) (ns ms : List ℕ) (r s : List Word) → Listed l ws xs ns r
    → Listed l ws ys ms s → (xs ≡ ys) × (ns ≡ ms) × (r ≡ s)
listed_one l ws xs ys ns ms r s (none u absent) b = at_end u ys ms s absent b
  where
    at_end : (u ys : List Word) (ms : List ℕ) (s : List Word) → NoSymbol u → Listed l u ys ms s
        → ([] ≡ ys) × ([] ≡ ms) × (u ≡ s)
    at_end u ys ms s n (none v m) = (refl, refl, refl)
    at_end u ys ms s n (one v behind left q x zs os f g h) = absurd (n x behind f)
listed_one l ws xs ys ns ms r s (one u behind left q x zs os f g h) b
    = at_more u behind left q x zs os ys ms s f g (λ vs ks t k. listed_one l left zs vs os ks q t h k) b
  where
    at_more : (u behind left q : List Word) (x : Word) (zs : List Word) (os : List ℕ) (ys : List Word) (ms : List ℕ)
        (s : List Word) → SymbolFirst u x behind → NumberPassed l behind left
        → ((vs : List Word) (ks : List ℕ) (t : List Word) → Listed l left vs ks t → (zs ≡ vs) × (os ≡ ks) × (q ≡ t))
        → Listed l u ys ms s → (x ∷ zs ≡ ys) × (length u ∷ os ≡ ms) × (q ≡ s)
    at_more u behind left q x zs os ys ms s f g same (none v m) = absurd (m x behind f)
    at_more u behind left q x zs os ys ms s f g same (one v back gone t y vs ks k i j) =
        let e = symbol_one u x y behind back f k in
        let d = number_one l back left gone (subst (λ b. NumberPassed l b left) e.1 g) i in
        let rest = same vs ks t (subst (λ b. Listed l b vs ks t) (sym d) j) in
        (ap₂ ◌∷◌ e.0 rest.0, ap (λ is. length u ∷ is) rest.1, rest.2)

-- a symbol has a word
pub symbol_shorter : (ws behind : List Word) (x : Word) → SymbolFirst ws x behind → length behind < length ws
symbol_shorter ws behind x f = omega (arith, ap length (symbol_is ws x behind f))

number_within : (l : Listing) (ws rest : List Word) → NumberPassed l ws rest → length rest ≤ length ws
number_within Plain ws rest g = omega (arith, ap length g)
number_within Numbered ws rest (inl (ds, e)) = omega (arith, ap length e)
number_within Numbered ws rest (inr (absent, e)) = omega (arith, ap length e)

pub listed_shorter : (l : Listing) (ws behind left : List Word) (x : Word) → SymbolFirst ws x behind
    → NumberPassed l behind left → length left < length ws
listed_shorter l ws behind left x f g = omega (arith, symbol_shorter ws behind x f, number_within l behind left g)

pub symbols_within : (ws xs rest : List Word) → Symbols ws xs rest → length rest ≤ length ws
symbols_within ws xs rest (end u absent) = omega arith
symbols_within ws xs rest (more u behind q x ys f h)
    = omega (arith, symbol_shorter u behind x f, symbols_within behind ys q h)

pub listed_within : (l : Listing) (ws xs : List Word) (ns : List ℕ) (rest : List Word) → Listed l ws xs ns rest
    → length rest ≤ length ws
listed_within l ws xs ns rest (none u absent) = omega arith
listed_within l ws xs ns rest (one u behind left q x ys os f g h)
    = omega (arith, listed_shorter l u behind left x f g, listed_within l left ys os q h)

words_snoc : (symbols : List SymbolName) (s : SymbolName) (xs : List Word)
    → symbol_words (symbols ++ s ∷ []) ++ xs ≡ symbol_words symbols ++ symbol_word s ∷ xs
words_snoc [] s xs = refl
words_snoc (t ∷ symbols) s xs = ap (λ ys. symbol_word t ∷ ys) (words_snoc symbols s xs)

-- the symbols so far and those that are left are all symbols
abbrev pub SymbolsGoOn : List Word → List SymbolName → List Word → Type 0
SymbolsGoOn ws symbols at = (xs rest : List Word) → Symbols at xs rest → Symbols ws (symbol_words symbols ++ xs) rest

-- a symbol more
pub symbols_more : (ws at behind : List Word) (symbols longer : List SymbolName) (s : SymbolName) (x : Word)
    → SymbolsGoOn ws symbols at → SymbolFirst at x behind → symbol_word s ≡ x → longer ≡ symbols ++ s ∷ []
    → SymbolsGoOn ws longer behind
symbols_more ws at behind symbols longer s x so_far here e f xs rest h =
    subst (λ i. Symbols ws (symbol_words i ++ xs) rest) (sym f)
    (subst (λ ys. Symbols ws ys rest) (sym (words_snoc symbols s xs))
    (so_far (symbol_word s ∷ xs) rest (more at behind rest (symbol_word s) xs
    (subst (λ y. SymbolFirst at y behind) (sym e) here) h)))

-- no symbol more
pub symbols_end : (ws at : List Word) (symbols : List SymbolName) → SymbolsGoOn ws symbols at → NoSymbol at
    → Symbols ws (symbol_words symbols) at
symbols_end ws at symbols so_far stops
    = subst (λ ys. Symbols ws ys at) (append-nil (symbol_words symbols)) (so_far [] at (end at stops))

-- and those of a declaration
abbrev pub ListedGoOn : Listing → List Word → List SymbolName → List ℕ → List Word → Type 0
ListedGoOn l ws symbols left at = (xs : List Word) (ns : List ℕ) (rest : List Word) → Listed l at xs ns rest
    → Listed l ws (symbol_words symbols ++ xs) (left ++ ns) rest

pub listed_more : (l : Listing) (ws at behind rest : List Word) (symbols longer : List SymbolName)
    (left more_left : List ℕ) (s : SymbolName) (x : Word) → ListedGoOn l ws symbols left at → SymbolFirst at x behind
    → symbol_word s ≡ x → NumberPassed l behind rest → longer ≡ symbols ++ s ∷ []
    → more_left ≡ left ++ length at ∷ [] → ListedGoOn l ws longer more_left rest
listed_more l ws at behind rest symbols longer left more_left s x so_far here e passed f g xs ns last h =
    subst (λ i. Listed l ws (symbol_words longer ++ xs) (i ++ ns) last) (sym g)
    (subst (λ i. Listed l ws (symbol_words i ++ xs) ((left ++ length at ∷ []) ++ ns) last) (sym f)
    (subst (λ ys. Listed l ws ys ((left ++ length at ∷ []) ++ ns) last) (sym (words_snoc symbols s xs))
    (subst (λ ys. Listed l ws (symbol_words symbols ++ symbol_word s ∷ xs) ys last)
    (sym (append_assoc left (length at ∷ []) ns))
    (so_far (symbol_word s ∷ xs) (length at ∷ ns) last (one at behind rest last (symbol_word s) xs ns
    (subst (λ y. SymbolFirst at y behind) (sym e) here) passed h)))))

pub listed_end : (l : Listing) (ws at : List Word) (symbols : List SymbolName) (left : List ℕ)
    → ListedGoOn l ws symbols left at → NoSymbol at → Listed l ws (symbol_words symbols) left at
listed_end l ws at symbols left so_far stops
    = subst (λ ys. Listed l ws ys left at) (append-nil (symbol_words symbols))
    (subst (λ ns. Listed l ws (symbol_words symbols ++ []) ns at) (append-nil left)
    (so_far [] [] at (none at stops)))

-- what stands behind a tag is determined
pub tag_one : (ws r s : List Word) → TagPassed ws r → TagPassed ws s → r ≡ s
tag_one ws r s (inl (n, e, h)) (inl (m, f, k)) = cc
tag_one ws r s (inl (n, e, h)) (inr (absent, f)) = absurd (absent _ e)
tag_one ws r s (inr (absent, e)) (inl (m, f, k)) = absurd (absent _ f)
tag_one ws r s (inr (absent, e)) (inr (n, f)) = sym e ∙ f

pub list_one : (l : Listing) (ws xs ys : List Word) (ns ms : List ℕ) (r s : List Word) → SymbolList l ws xs ns r
    → SymbolList l ws ys ms s → (xs ≡ ys) × (ns ≡ ms) × (r ≡ s)
list_one l ws xs ys ns ms r s a b = listed_one l b.behind xs ys ns ms r s
    (subst (λ i. Listed l i xs ns r) (tag_one ws a.behind b.behind a.tag b.tag) a.symbols) b.symbols

-- no symbol stands behind the tag
pub no_list : (l : Listing) (ws behind rest : List Word) (symbols : List SymbolName) (left : List ℕ)
    → TagPassed ws behind → Listed l behind (symbol_words symbols) left rest → symbols ≡ [] → (xs : List Word)
    (ns : List ℕ) (s : List Word) → SymbolList l ws xs ns s → ⊥
no_list l ws behind rest symbols left tag read e xs ns s list =
    let same = tag_one ws list.behind behind list.tag tag in
    let both = listed_one l behind xs (symbol_words symbols) ns left s rest
    (subst (λ i. Listed l i xs ns s) same list.symbols) read in
    list.some (both.0 ∙ ap symbol_words e)

pub empty_list : {A : Type 0} (t : Bool) (xs : List A) → t ≡ eqb (length xs) 0 → t ≡ true → xs ≡ []
empty_list t [] e f = refl
empty_list t (x ∷ xs) e f = absurd (omega (arith, eqb-true (length (x ∷ xs)) 0 (sym e ∙ f)))
