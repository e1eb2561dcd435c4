-- A JSON text that begins with a placed term says which one.
use Rattle.std.proofs.Common.{◌≡◌, ◌∙◌, ◌++◌, ◌∷◌, ℕ, List, ap, ap₂, append_assoc, append-nil, get_or, refl, sym}
use Rattle.std.proofs.lemmas.Bool.{eqb-false}
use Rattle.std.proofs.lemmas.List.{append_cancel_left}
use Rattle.std.specs.Fmt.{decimal}
use Rattle.std.specs.Prelude.{codes}
use Rattle.std.specs.Str.{is_utf8}
use Rattle.ly_spans.specs.Spans.{json_span}
use Rattle.ly_places.specs.Placed as placed
use Rattle.ly_places.specs.Placed.{PlacedTerms}
use Rattle.ly_places.specs.PlacedJson.{placed_jsons}
use Rattle.ly_places.specs.PlacedJsonLaws.{all_named, json_named, json_spot, json_spots, jsons_named, named}
use Rattle.ly_places.specs.PlacedJsonLaws.{others_named, AllNamedPlaces, AreSpelled, IsCounted, IsOfNamedPlaces}
use Rattle.ly_places.specs.PlacedJsonLaws.{IsSpelled, NamedPlaces, SaysOnePlacedTree, Spot, built, leaf, more, none}
use Rattle.ly_places.specs.PlacedJsonLaws.{nothing}
use Rattle.ly_print.specs.Json.{json_content, json_name}
use Rattle.ly_tree.proofs.JsonReadingLemmas.{apart, content_one, decimal_one, name_one, peel, tails}
use Rattle.ly_tree.specs.Shown.{Vocabulary}

-- spots with the same numbers are the same
same_spot : (a b : Spot) → a.offset ≡ b.offset → a.line ≡ b.line → a.column ≡ b.column → a ≡ b
same_spot a b offset line column =
    ap (λ (n : ℕ). spot n a.line a.column) offset ∙ (ap (λ (n : ℕ). spot b.offset n a.column) line
    ∙ ap (λ (n : ℕ). spot b.offset b.line n) column)
  where
    spot : ℕ → ℕ → ℕ → Spot
    spot o l c = record { offset = o; line = l; column = c }

-- what stands behind the offset of a spot, and behind its line
abbrev behind_line : Spot → List ℕ
behind_line s = codes "," ++ (decimal s.column ++ codes "]")

abbrev behind_offset : Spot → List ℕ
behind_offset s = codes "," ++ (decimal s.line ++ behind_line s)

spot_one : (a b : Spot) (r q : List ℕ) → IsCounted a → IsCounted b → json_spot a ++ r ≡ json_spot b ++ q
    → (a ≡ b) × (r ≡ q)
spot_one a b r q f g e =
    let offsets = decimal_one a.offset b.offset (behind_offset a ++ r) (behind_offset b ++ q) f.offset g.offset refl
    refl (apart (decimal a.offset) (decimal b.offset) (behind_offset a) (behind_offset b) r q (tails 91 91 _ _ e)) in
    let lines = decimal_one a.line b.line (behind_line a ++ r) (behind_line b ++ q) f.line g.line refl refl
    (apart (decimal a.line) (decimal b.line) (behind_line a) (behind_line b) r q (tails 44 44 _ _ offsets.1)) in
    let columns = decimal_one a.column b.column (codes "]" ++ r) (codes "]" ++ q) f.column g.column refl refl
    (apart (decimal a.column) (decimal b.column) (codes "]") (codes "]") r q (tails 44 44 _ _ lines.1)) in
    (same_spot a b offsets.0 lines.0 columns.0, tails 93 93 r q columns.1)

spots_one : (a b c d : Spot) (r q : List ℕ) → IsCounted a → IsCounted b → IsCounted c → IsCounted d
    → json_spots a b ++ r ≡ json_spots c d ++ q → (a ≡ c) × (b ≡ d) × (r ≡ q)
spots_one a b c d r q f g h i e =
    let e1 = peel (codes ",\"start\":") (json_spot a ++ (codes ",\"end\":" ++ json_spot b))
    (json_spot c ++ (codes ",\"end\":" ++ json_spot d)) r q e in
    let first = spot_one a c ((codes ",\"end\":" ++ json_spot b) ++ r) ((codes ",\"end\":" ++ json_spot d) ++ q) f h
    (apart (json_spot a) (json_spot c) (codes ",\"end\":" ++ json_spot b) (codes ",\"end\":" ++ json_spot d) r q e1) in
    let last = spot_one b d r q g i (peel (codes ",\"end\":") (json_spot b) (json_spot d) r q first.1) in
    (first.0, last.0, last.1)

-- what stands behind a name and two spots
labelled_one : (w n m x y : List ℕ) (a b c d : Spot) (r q : List ℕ) → IsCounted a → IsCounted b → IsCounted c
    → IsCounted d
    → (w ++ (json_name n ++ (json_spots a b ++ x))) ++ r ≡ (w ++ (json_name m ++ (json_spots c d ++ y))) ++ q
    → (n ≡ m) × (a ≡ c) × (b ≡ d) × (x ++ r ≡ y ++ q)
labelled_one w n m x y a b c d r q f g h i e =
    let e1 = peel w (json_name n ++ (json_spots a b ++ x)) (json_name m ++ (json_spots c d ++ y)) r q e in
    let names = name_one n m ((json_spots a b ++ x) ++ r) ((json_spots c d ++ y) ++ q)
    (apart (json_name n) (json_name m) (json_spots a b ++ x) (json_spots c d ++ y) r q e1) in
    let spots = spots_one a b c d (x ++ r) (y ++ q) f g h i
    (apart (json_spots a b) (json_spots c d) x y r q names.1) in
    (names.0, spots.0, spots.1, spots.2)

-- a term's text begins with an `n` or a brace, so with no bracket
begins : (t : NamedPlaces) (r : List ℕ) → get_or (json_named t ++ r) 0 0 ≡ 93 → ⊥
begins nothing r is = absurd (eqb-false 110 93 refl is)
begins (leaf name a b bytes) r is = absurd (eqb-false 123 93 refl is)
begins (built name a b ts) r is = absurd (eqb-false 123 93 refl is)

-- leaves and nodes with the same parts are the same
same_leaf : (n m : List ℕ) (a b c d : Spot) (x y : List ℕ) → n ≡ m → a ≡ c → b ≡ d → x ≡ y
    → leaf n a b x ≡ leaf m c d y
same_leaf n m a b c d x y h i j k = ap (λ z. leaf z a b x) h ∙ (ap (λ z. leaf m z b x) i
    ∙ (ap (λ z. leaf m c z x) j ∙ ap (leaf m c d) k))

same_node : (n m : List ℕ) (a b c d : Spot) (x y : AllNamedPlaces) → n ≡ m → a ≡ c → b ≡ d → x ≡ y
    → built n a b x ≡ built m c d y
same_node n m a b c d x y h i j k = ap (λ z. built z a b x) h ∙ (ap (λ z. built m z b x) i
    ∙ (ap (λ z. built m c z x) j ∙ ap (built m c d) k))

mutual
  term_one : (s t : NamedPlaces) (r q : List ℕ) → IsSpelled s → IsSpelled t → json_named s ++ r ≡ json_named t ++ q
      → (s ≡ t) × (r ≡ q)
  term_one nothing nothing r q f g e = (refl, append_cancel_left (codes "null") r q e)
  term_one (leaf n a b x) (leaf m c d y) r q f g e =
      let read = labelled_one (codes "{\"token\":") n m (codes "," ++ (json_content x ++ codes "}"))
      (codes "," ++ (json_content y ++ codes "}")) a b c d r q f.0 f.1 g.0 g.1 e in
      let bytes = content_one (is_utf8 x) (is_utf8 y) x y (codes "}" ++ r) (codes "}" ++ q) f.2 g.2
      (apart (json_content x) (json_content y) (codes "}") (codes "}") r q (tails 44 44 _ _ read.3)) in
      (same_leaf n m a b c d x y read.0 read.1 read.2 bytes.0, append_cancel_left (codes "}") r q bytes.1)
  term_one (built n a b ts) (built m c d us) r q f g e =
      let read = labelled_one (codes "{\"node\":") n m (codes ",\"children\":[" ++ (jsons_named ts ++ codes "]}"))
      (codes ",\"children\":[" ++ (jsons_named us ++ codes "]}")) a b c d r q f.0 f.1 g.0 g.1 e in
      let terms = terms_one ts us (125 ∷ r) (125 ∷ q) f.2 g.2
      (apart (jsons_named ts) (jsons_named us) (codes "]}") (codes "]}") r q
      (peel (codes ",\"children\":[") (jsons_named ts ++ codes "]}") (jsons_named us ++ codes "]}") r q read.3)) in
      (same_node n m a b c d ts us read.0 read.1 read.2 terms.0, tails 125 125 r q terms.1)
  term_one nothing (leaf m c d y) r q f g e = absurd (eqb-false 110 123 refl (ap (λ l. get_or l 0 0) e))
  term_one nothing (built m c d us) r q f g e = absurd (eqb-false 110 123 refl (ap (λ l. get_or l 0 0) e))
  term_one (leaf n a b x) nothing r q f g e = absurd (eqb-false 123 110 refl (ap (λ l. get_or l 0 0) e))
  term_one (built n a b ts) nothing r q f g e = absurd (eqb-false 123 110 refl (ap (λ l. get_or l 0 0) e))
  term_one (leaf n a b x) (built m c d us) r q f g e = absurd (eqb-false 116 110 refl (ap (λ l. get_or l 2 0) e))
  term_one (built n a b ts) (leaf m c d y) r q f g e = absurd (eqb-false 110 116 refl (ap (λ l. get_or l 2 0) e))

  terms_one : (ts us : AllNamedPlaces) (r q : List ℕ) → AreSpelled ts → AreSpelled us
      → jsons_named ts ++ 93 ∷ r ≡ jsons_named us ++ 93 ∷ q → (ts ≡ us) × (r ≡ q)
  terms_one none none r q f g e = (refl, tails 93 93 r q e)
  terms_one none (more u us) r q f g e = absurd (begins u (others_named us ++ 93 ∷ q)
      (sym (ap (λ l. get_or l 0 0) (e ∙ append_assoc (json_named u) (others_named us) (93 ∷ q)))))
  terms_one (more t ts) none r q f g e = absurd (begins t (others_named ts ++ 93 ∷ r)
      (ap (λ l. get_or l 0 0) (sym (append_assoc (json_named t) (others_named ts) (93 ∷ r)) ∙ e)))
  terms_one (more t ts) (more u us) r q f g e =
      let both = apart (json_named t) (json_named u) (others_named ts) (others_named us) (93 ∷ r) (93 ∷ q) e in
      let first = term_one t u (others_named ts ++ 93 ∷ r) (others_named us ++ 93 ∷ q) f.0 g.0 both in
      let rest = others_one ts us r q f.1 g.1 first.1 in
      (ap₂ more first.0 rest.0, rest.1)

  others_one : (ts us : AllNamedPlaces) (r q : List ℕ) → AreSpelled ts → AreSpelled us
      → others_named ts ++ 93 ∷ r ≡ others_named us ++ 93 ∷ q → (ts ≡ us) × (r ≡ q)
  others_one none none r q f g e = (refl, tails 93 93 r q e)
  others_one none (more u us) r q f g e = absurd (eqb-false 93 44 refl (ap (λ l. get_or l 0 0) e))
  others_one (more t ts) none r q f g e = absurd (eqb-false 44 93 refl (ap (λ l. get_or l 0 0) e))
  others_one (more t ts) (more u us) r q f g e =
      let both = apart (json_named t) (json_named u) (others_named ts) (others_named us) (93 ∷ r) (93 ∷ q)
      (tails 44 44 _ _ e) in
      let first = term_one t u (others_named ts ++ 93 ∷ r) (others_named us ++ 93 ∷ q) f.0 g.0 both in
      let rest = others_one ts us r q f.1 g.1 first.1 in
      (ap₂ more first.0 rest.0, rest.1)

pub says_one : SaysOnePlacedTree
says_one s t r q f g e = term_one s t r q f g e

mutual
  pub of_names : IsOfNamedPlaces
  of_names v text (placed.nothing e) = refl
  of_names v text (placed.leaf t e) = refl
  of_names v text (placed.built p e ts) = ap (λ children. codes "{\"node\":" ++ (json_name (v.constructor p)
      ++ (json_span text e ++ (codes ",\"children\":[" ++ (children ++ codes "]}"))))) (all_of_names v text ts)

  all_of_names : (v : Vocabulary) (text : List ℕ) (ts : PlacedTerms)
      → placed_jsons v text ts ≡ jsons_named (all_named v text ts)
  all_of_names v text placed.none = refl
  all_of_names v text (placed.more t placed.none) =
      of_names v text t ∙ sym (append-nil (json_named (named v text t)))
  all_of_names v text (placed.more t (placed.more u ts)) =
      ap₂ (λ first others. first ++ (codes "," ++ others)) (of_names v text t)
      (all_of_names v text (placed.more u ts))
