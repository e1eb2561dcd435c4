-- What is left to print of parts is the JSON text of their term.
use Rattle.std.proofs.Common.{◌≡◌, ◌∙◌, ◌<◌, ◌≤◌, ◌-◌, ℕ, suc, List, [], ◌∷◌, ◌++◌, length, true, false, ap}
use Rattle.std.proofs.Common.{cond, nat_eq, nat_lt, sym, refl, subst, arith, append_assoc, append-nil, length-append}
use Rattle.std.proofs.lemmas.Bool.Decides.{nat_tests}
use Rattle.std.specs.Prelude.{codes}
use Rattle.ly_spans.specs.Spans.{IsWithin}
use Rattle.ly_places.specs.Parts.{all_parts, part, parts_of}
use Rattle.ly_places.specs.Placed.{Placed, PlacedTerms, built, leaf, more, none, nothing}
use Rattle.ly_places.specs.PlacedJson.{placed_json, placed_jsons}
use Rattle.ly_places.specs.Private.Printing.{closing, opening}
use Rattle.ly_places.specs.Private.Printing.{parts_text, still_open, AreSound}
use Rattle.ly_places.specs.Within.{StandsWithin, AllStandWithin}
use Rattle.ly_spans.specs.declared.span.Span.{Span}
use Rattle.ly_places.specs.declared.part.Part.{Part}
use Rattle.ly_places.specs.declared.part.PartKind.{PartKind}
use Rattle.ly_places.specs.declared.part.PartKind.TheVariants.{Node, Nothing, Token}
use Rattle.ly_tree.specs.Shown.{Vocabulary}

pub same_number : (n : ℕ) → nat_eq n n ≡ true
same_number n = grind (arith, nat_tests)

other_number : (n m : ℕ) → n < m → nat_eq n m ≡ false
other_number n m less = grind (arith, nat_tests)

-- a term has at least one part
some_part : (t : Placed) → 1 ≤ length (parts_of t)
some_part (nothing e) = omega arith
some_part (leaf t e) = omega arith
some_part (built p e ts) = omega arith

several : (n : ℕ) → 1 < n → nat_lt 1 n ≡ true
several n above = grind (arith, nat_tests)

module _ (v : Vocabulary) (text : List ℕ) where
  -- what is printed behind a term
  abbrev behind_text : List ℕ → List Part → List ℕ
  behind_text nodes ps = closing (length ps) nodes ++ parts_text v text (still_open (length ps) nodes) ps

  -- a node ends
  node_ends : (n : ℕ) (nodes : List ℕ) (ps : List Part) → n ≡ length ps
      → behind_text (n ∷ nodes) ps ≡ codes "]}" ++ behind_text nodes ps
  node_ends n nodes ps is =
      ap (λ b. cond b (codes "]}" ++ closing (length ps) nodes) (codes ",")
      ++ parts_text v text (cond b (still_open (length ps) nodes) (n ∷ nodes)) ps)
      (ap (λ m. nat_eq m (length ps)) is ∙ same_number (length ps))

  -- another child comes
  child_comes : (n : ℕ) (nodes : List ℕ) (ps : List Part) → n < length ps
      → behind_text (n ∷ nodes) ps ≡ codes "," ++ parts_text v text (n ∷ nodes) ps
  child_comes n nodes ps less =
      ap (λ b. cond b (codes "]}" ++ closing (length ps) nodes) (codes ",")
      ++ parts_text v text (cond b (still_open (length ps) nodes) (n ∷ nodes)) ps)
      (other_number n (length ps) less)

  -- what is printed of the parts of terms, the last of a node, one behind another
  abbrev AreTermsText : PlacedTerms → List ℕ → List Part → Type 0
  AreTermsText none nodes ps = Unit {0}
  AreTermsText (more t ts) nodes ps = parts_text v text (length ps ∷ nodes) (parts_of t ++ (all_parts ts ++ ps))
      ≡ placed_jsons v text (more t ts) ++ (codes "]}" ++ behind_text nodes ps)

  -- a node begins
  node_text : (p : ℕ) (e : Span) (t : Placed) (ts : PlacedTerms) (nodes : List ℕ) (ps : List Part)
      → AreTermsText (more t ts) nodes ps
      → parts_text v text nodes (parts_of (built p e (more t ts)) ++ ps)
      ≡ placed_json v text (built p e (more t ts)) ++ behind_text nodes ps
  node_text p e t ts nodes ps children =
      let all = all_parts (more t ts) in
      let count : suc (length (all ++ ps)) - suc (length all) ≡ length ps = omega (arith, length-append all ps) in
      let others : nat_lt 1 (suc (length all)) ≡ true
      = several (suc (length all)) (omega (arith, some_part t, length-append (parts_of t) (all_parts ts))) in
      let behind = suc (length (all ++ ps)) - suc (length all) in
      let opened : parts_text v text nodes (parts_of (built p e (more t ts)) ++ ps)
      ≡ opening v text (Node (record { 0 = p })) e ++ parts_text v text (behind ∷ nodes) (all ++ ps)
      = ap (λ b. opening v text (Node (record { 0 = p })) e
      ++ (cond b [] (closing (length (all ++ ps)) (behind ∷ nodes))
      ++ parts_text v text (cond b (behind ∷ nodes) (still_open (length (all ++ ps)) (behind ∷ nodes))) (all ++ ps)))
      others in
      opened
      ∙ (ap (λ n. opening v text (Node (record { 0 = p })) e ++ parts_text v text (n ∷ nodes) (all ++ ps)) count
      ∙ (ap (λ qs. opening v text (Node (record { 0 = p })) e ++ parts_text v text (length ps ∷ nodes) qs)
      (append_assoc (parts_of t) (all_parts ts) ps)
      ∙ (ap (λ r. opening v text (Node (record { 0 = p })) e ++ r) children ∙ simp append_assoc)))

  mutual
    -- the parts of a term are printed as its text, and then what is behind it
    term_text : (t : Placed) (nodes : List ℕ) (ps : List Part)
        → parts_text v text nodes (parts_of t ++ ps) ≡ placed_json v text t ++ behind_text nodes ps
    term_text (nothing e) nodes ps = refl
    term_text (leaf t e) nodes ps = refl
    term_text (built p e none) nodes ps =
        ap (λ r. opening v text (Node (record { 0 = p })) e ++ r)
        (node_ends (suc (length ps) - 1) nodes ps (let one : suc (length ps) - 1 ≡ length ps = omega arith in one))
        ∙ simp append_assoc
    term_text (built p e (more t ts)) nodes ps = node_text p e t ts nodes ps (terms_text (more t ts) nodes ps)

    -- those of a node's children
    terms_text : (ts : PlacedTerms) (nodes : List ℕ) (ps : List Part) → AreTermsText ts nodes ps
    terms_text none nodes ps = tt
    terms_text (more t none) nodes ps = term_text t (length ps ∷ nodes) ps
        ∙ ap (λ r. placed_json v text t ++ r) (node_ends (length ps) nodes ps refl)
    terms_text (more t (more u us)) nodes ps =
        let less : length ps < length (all_parts (more u us) ++ ps)
        = omega (
          arith,
          length-append (all_parts (more u us)) ps,
          length-append (parts_of u) (all_parts us),
          some_part u,
        ) in
        term_text t (length ps ∷ nodes) (all_parts (more u us) ++ ps)
        ∙ (ap (λ r. placed_json v text t ++ r) (child_comes (length ps) nodes (all_parts (more u us) ++ ps) less
        ∙ ap (λ r. codes "," ++ r) (ap (parts_text v text (length ps ∷ nodes))
        (append_assoc (parts_of u) (all_parts us) ps)
        ∙ terms_text (more u us) nodes ps))
        ∙ simp append_assoc)

  -- the parts of a term are printed as its JSON text
  pub parts_are_json : (t : Placed) (ps : List Part) → ps ≡ parts_of t → parts_text v text [] ps ≡ placed_json v text t
  parts_are_json t ps is = ap (parts_text v text []) (is ∙ sym (append-nil (parts_of t))) ∙ (term_text t [] []
      ∙ append-nil (placed_json v text t))

sound_before : (count : ℕ) (kind : PartKind) (e : Span) (n : ℕ) (ps : List Part) → IsWithin count e → 1 ≤ n
    → n ≤ suc (length ps) → AreSound count ps → AreSound count (part kind e n ∷ ps)
sound_before count kind e n ps within some left sound =
    (record { within = within; some = some; left_for_it = left }, sound)

mutual
  -- the parts of a term that stands within a text do, and none has more parts than there are
  terms_sound : (count : ℕ) (ts : PlacedTerms) (ps : List Part) → AllStandWithin count ts → AreSound count ps
      → AreSound count (all_parts ts ++ ps)
  terms_sound count none ps within sound = sound
  terms_sound count (more t ts) ps within sound = subst (AreSound count)
      (sym (append_assoc (parts_of t) (all_parts ts) ps))
      (term_sound count t (all_parts ts ++ ps) within.0 (terms_sound count ts ps within.1 sound))

  term_sound : (count : ℕ) (t : Placed) (ps : List Part) → StandsWithin count t → AreSound count ps
      → AreSound count (parts_of t ++ ps)
  term_sound count (nothing e) ps within sound =
      sound_before count Nothing e 1 ps within (omega arith) (omega arith) sound
  term_sound count (leaf t e) ps within sound =
      sound_before count (Token (record { 0 = t })) e 1 ps within (omega arith) (omega arith) sound
  term_sound count (built p e ts) ps within sound =
      sound_before count (Node (record { 0 = p })) e (suc (length (all_parts ts))) (all_parts ts ++ ps) within.0
      (omega arith) (omega (arith, length-append (all_parts ts) ps)) (terms_sound count ts ps within.1 sound)

pub parts_sound : (count : ℕ) (t : Placed) (ps : List Part) → ps ≡ parts_of t → StandsWithin count t
    → AreSound count ps
parts_sound count t ps is within = subst (AreSound count) (sym (is ∙ sym (append-nil (parts_of t))))
    (term_sound count t [] within tt)
