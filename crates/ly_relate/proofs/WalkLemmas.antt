-- Walks over the bodies of rules: what includes and looks back to a transition.
use Rattle.std.proofs.Common.{◌≡◌, ◌∙◌, ◌⊎◌, inl, inr, ℕ, zero, suc, ◌+◌, ◌-◌, ◌<◌, List, [], ◌∷◌, ◌++◌, Some}
use Rattle.std.proofs.Common.{refl, sym, ap, subst, arith, length, take, drop, slice_get, slice_index_or, append_assoc}
use Rattle.std.proofs.Common.{append-nil}
use Rattle.std.specs.Prelude.{reverse}
use Rattle.std.proofs.Math.Seq.{drop-append_seam, take-append_seam}
use Rattle.std.proofs.lemmas.List.{length-reverse, reverse-append, reverse-reverse, take-append-drop}
use Rattle.std.proofs.lemmas.Option.{slice_get-get_or, slice_get_past}
use Rattle.std.proofs.Common.{map}
use Rattle.std.proofs.Math.ListN.{get_or-map}
use Rattle.std.proofs.lemmas.List.{length-map}
use Rattle.ly_join.specs.declared.symbol.Symbol as code
use Rattle.ly_join.specs.declared.symbol.Symbol.TheVariants.{Terminal}
use Rattle.ly_join.specs.Grammar.{Grammar, Symbol, symbol_of, terminal}
use Rattle.ly_grammar.specs.Derivations.{IsNullable}
use Rattle.ly_grammar.specs.Items.{onto}
use Rattle.ly_lr0.specs.Automaton.{Lr0Automaton, IsLr0Automaton, Reaches, goto_of}
use Rattle.ly_relate.specs.Private.Walks.{IsPassed}
use Rattle.std.proofs.lemmas.Bool.{cases_order}
use Rattle.std.proofs.Math.Seq.{get_or-append_seam}
use Rattle.std.proofs.lemmas.List.{get_or_append_left, length-append}
use Rattle.ly_base.specs.Trees.{Tree, leaf, node, none, more, yield_of, yields_of}
use Rattle.ly_grammar.specs.Derivations.{IsTree}
use Rattle.ly_lr0.proofs.StateLemmas.{target_some}
use Rattle.ly_relate.proofs.GotoLemmas.{leads_from, split_at}
use Rattle.ly_relate.proofs.ReachLemmas.{left_empty, nullable_tree, right_empty}

-- symbols, last first, in front of others are these in their order, and then the others
pub onto_is : (b w : List Symbol) → onto b w ≡ reverse b ++ w
onto_is [] w = refl
onto_is (X ∷ b) w = onto_is b (X ∷ w) ∙ (sym (append_assoc (reverse b) (X ∷ []) w)
    ∙ ap (λ u. u ++ w) (sym (reverse_cons X b)))
  where
    reverse_cons : (X : Symbol) (b : List Symbol) → reverse (X ∷ b) ≡ reverse b ++ X ∷ []
    reverse_cons X b = reverse-append (X ∷ []) b

-- the first symbols of a body, last first, in front of the rest
pub onto_take : (body : List Symbol) (k : ℕ) → onto (reverse (take k body)) (drop k body) ≡ body
onto_take body k = onto_is (reverse (take k body)) (drop k body)
    ∙ (ap (λ u. u ++ drop k body) (reverse-reverse (take k body)) ∙ take-append-drop k body)

-- and so is each way to part it
pub parted : (b w body : List Symbol) → onto b w ≡ body → (b ≡ reverse (take (length b) body))
    × (w ≡ drop (length b) body)
parted b w body e =
    let is : body ≡ reverse b ++ w = sym e ∙ onto_is b w in
    let long = length-reverse b in
    let front : take (length b) body ≡ reverse b
    = ap (take (length b)) is ∙ (ap (λ n. take n (reverse b ++ w)) (sym long) ∙ take-append_seam (reverse b) w) in
    let rest : drop (length b) body ≡ w
    = ap (drop (length b)) is ∙ (ap (λ n. drop n (reverse b ++ w)) (sym long) ∙ drop-append_seam (reverse b) w) in
    (sym (ap reverse front ∙ reverse-reverse b), sym rest)

-- one more symbol of a body, last first
pub turned_more : (body : List Symbol) (k : ℕ) (X : Symbol) → slice_get body k ≡ Some X
    → reverse (take (k + 1) body) ≡ X ∷ reverse (take k body)
turned_more body k X is =
    ap (λ n. reverse (take n body)) (let e : k + 1 ≡ suc k = omega arith in e)
    ∙ (ap reverse (split_at body k X is).1 ∙ reverse-append (take k body) (X ∷ []))

-- one more symbol that is passed
pub passed_more : (M : Lr0Automaton) (from : ℕ) (body : List Symbol) (k : ℕ) (path new : List ℕ) (X : Symbol) (s t : ℕ)
    → slice_get body k ≡ Some X → new ≡ path ++ s ∷ [] → goto_of M s X ≡ Some t → IsPassed M from body k path s
    → IsPassed M from body (k + 1) new t
passed_more M from body k path new X s t is e goes before = record {
  long = ap length e ∙ (length-append path (s ∷ []) ∙ (let n = before.long in let sum : length path + 1 ≡ k + 1
      = omega (arith, n) in sum));
  states = λ j lt. at j lt (cases_order j k);
  end = subst (λ w. Reaches (goto_of M) from w t) (sym (turned_more body k X is)) (s, before.end, goes);
} where
  at : (j : ℕ) → j < k + 1 → (j ≡ k) ⊎ ((j < k) ⊎ (k < j))
      → Reaches (goto_of M) from (reverse (take j body)) (slice_index_or new j 0)
  at j lt (inl same) =
      let there : slice_index_or new j 0 ≡ s
      = ap (λ w. slice_index_or w j 0) e ∙ (ap (λ m. slice_index_or (path ++ s ∷ []) m 0) (same ∙ sym before.long)
      ∙ get_or-append_seam path s [] 0) in
      subst (λ m. Reaches (goto_of M) from (reverse (take j body)) m) (sym there)
      (subst (λ m. Reaches (goto_of M) from (reverse (take m body)) s) (sym same) before.end)
  at j lt (inr (inl less)) =
      let long = before.long in
      let there : slice_index_or new j 0 ≡ slice_index_or path j 0
      = ap (λ w. slice_index_or w j 0) e ∙ get_or_append_left path (s ∷ []) 0 j (omega (arith, less, long)) in
      subst (λ m. Reaches (goto_of M) from (reverse (take j body)) m) (sym there) (before.states j less)
  at j lt (inr (inr above)) = absurd (omega (arith, lt, above))

-- nothing is passed yet
pub passed_none : (M : Lr0Automaton) (from : ℕ) (body : List Symbol) (path : List ℕ) → path ≡ []
    → IsPassed M from body 0 path from
passed_none M from body path e = record {
  long = ap length e;
  states = λ k lt. absurd (omega (arith, lt));
  end = refl;
}

-- where a symbol leads is a state
pub leads_to : (M : Lr0Automaton) → IsLr0Automaton M → (s : ℕ) (X : Symbol) (t : ℕ) → goto_of M s X ≡ Some t
    → t < length M.states
leads_to M is s X t e =
    let of = leads_from M s X t e in
    (is.each s of.0 of.1).within (record { symbol = X; target = t }) (target_some of.0.transitions X t of.2)

-- a nullable symbol in front of nullable ones
pub nullable_cons : (G : Grammar) (X : Symbol) (w : List Symbol) → IsNullable G (X ∷ []) → IsNullable G w
    → IsNullable G (X ∷ w)
nullable_cons G X w null (ts, are, empty) =
    let d = nullable_tree G X null in
    (more d.0 ts, (d.1, are), ap (λ y. y ++ yields_of ts) d.2 ∙ empty)

-- each of nullable symbols is nullable
pub nullable_member : (G : Grammar) (w : List Symbol) (k : ℕ) (X : Symbol) → IsNullable G w → slice_get w k ≡ Some X
    → IsNullable G (X ∷ [])
nullable_member G [] k X null is = absurd (cc)
nullable_member G (Y ∷ w) k X (none, lacks, empty) is = absurd lacks
nullable_member G (Y ∷ w) zero X (more d ts, are, empty) is =
    let e : Y ≡ X = cc in
    subst (λ Z. IsNullable G (Z ∷ [])) e (
      more d none,
      (are.0, tt),
      append-nil (yield_of d) ∙ left_empty (yield_of d) (yields_of ts) empty,
    )
nullable_member G (Y ∷ w) (suc k) X (more d ts, are, empty) is =
    nullable_member G w k X (ts, are.1, right_empty (yield_of d) (yields_of ts) empty) is

-- a terminal isn't
pub terminal_not_nullable : (G : Grammar) (t : ℕ) → IsNullable G (terminal t ∷ []) → ⊥
terminal_not_nullable G t null = let d = nullable_tree G (terminal t) null in go d.0 d.1 d.2 where
  go : (d : Tree) → IsTree G (terminal t) d → yield_of d ≡ [] → ⊥
  go (leaf x) is e = cc
  go (node q ts) is e = absurd is

-- what stands behind a place stands in the rest of a list
pub in_rest : {X : Type 0} (xs : List X) (n k : ℕ) → slice_get (drop n xs) k ≡ slice_get xs (n + k)
in_rest [] zero k = slice_get_past [] k (omega arith) ∙ sym (slice_get_past [] (0 + k) (omega arith))
in_rest [] (suc n) k = slice_get_past [] k (omega arith) ∙ sym (slice_get_past [] (suc n + k) (omega arith))
in_rest (x ∷ xs) zero k = ap (slice_get (x ∷ xs)) (let e : k ≡ 0 + k = omega arith in e)
in_rest (x ∷ xs) (suc n) k = in_rest xs n k
    ∙ ap (slice_get (x ∷ xs)) (let e : suc (n + k) ≡ suc n + k = omega arith in e)

-- where what stands behind a place is nullable, so is each symbol there
pub nullable_behind : (G : Grammar) (body : List Symbol) (place k : ℕ) (X : Symbol)
    → IsNullable G (drop (place + 1) body)
    → place < k → slice_get body k ≡ Some X → IsNullable G (X ∷ [])
nullable_behind G body place k X null lt is =
    nullable_member G (drop (place + 1) body) (k - (place + 1)) X null
    (in_rest body (place + 1) (k - (place + 1)) ∙ (ap (slice_get body) (let e : (place + 1) + (k - (place + 1)) ≡ k
    = omega (arith, lt) in e) ∙ is))

-- where none stands
abbrev pub no_symbol : code.Symbol
no_symbol = Terminal (record { 0 = 0 })

-- a symbol of a body, as contracts see it
pub shown_symbol : (body : List code.Symbol) (k : ℕ) → k < length body
    → slice_get (map symbol_of body) k ≡ Some (symbol_of (slice_index_or body k no_symbol))
shown_symbol body k lt =
    slice_get-get_or (map symbol_of body) k (symbol_of no_symbol)
    (subst (λ n. k < n) (sym (length-map body symbol_of)) lt)
    ∙ ap (λ X. Some X) (get_or-map symbol_of body k no_symbol)

-- the rest of a list from a place on
pub drop_at : {X : Type 0} (xs : List X) (n : ℕ) (x : X) → slice_get xs n ≡ Some x → drop n xs ≡ x ∷ drop (n + 1) xs
drop_at [] n x is = absurd (cc)
drop_at (y ∷ xs) zero x is = let e : y ≡ x = cc in ap (λ z. z ∷ xs) e
drop_at (y ∷ xs) (suc n) x is = drop_at xs n x is
    ∙ ap (λ m. x ∷ drop m (y ∷ xs)) (let e : suc (n + 1) ≡ suc n + 1 = omega arith in e)

-- what stands first in the rest of a list
pub slice_at_drop : {X : Type 0} (xs : List X) (n : ℕ) (x : X) (rest : List X) → drop n xs ≡ x ∷ rest
    → (slice_get xs n ≡ Some x) × (rest ≡ drop (n + 1) xs)
slice_at_drop [] zero x rest e = absurd (cc)
slice_at_drop [] (suc n) x rest e = absurd (cc)
slice_at_drop (y ∷ xs) zero x rest e = (
  let same : y ≡ x = cc in ap (λ z. Some z) same,
  let same : xs ≡ rest
      = cc in sym same,
)
slice_at_drop (y ∷ xs) (suc n) x rest e =
    let i = slice_at_drop xs n x rest e in
    (i.0, i.1 ∙ ap (λ m. drop m (y ∷ xs)) (let e : suc (n + 1) ≡ suc n + 1 = omega arith in e))
