-- How long the line of a term may be, and how many terms wait while it is printed.
use Rattle.std.proofs.Common.{◌≡◌, ℕ, ◌+◌, ◌*◌, ◌<◌, ◌≤◌, List, [], ◌∷◌, ◌++◌, length, map, arith, Some, None}
use Rattle.std.proofs.Common.{refl, sym, ap, ◌∙◌, subst, length-append}
use Rattle.std.proofs.lemmas.List.Sums.{sum_by-cons}
use Rattle.std.specs.Borrow.{Bor}
use Rattle.std.specs.Option.{SomeIff}
use Rattle.std.specs.Prelude.{codes, sum, IfSome, IsSome, Option}
use Rattle.ly_base.specs.Bytes.{newline}
use Rattle.ly_base.specs.declared.numbers.Sym.{Sym}
use Rattle.ly_tree.proofs.CostLemmas.{length-terms_from}
use Rattle.ly_tree.specs.Costs.{budget, bytes_in, cost, costs, IsBoundedBySize}
use Rattle.ly_tree.specs.Forest.{term_of, Grown, Lists}
use Rattle.ly_tree.specs.Private.Grown.{grown, lists_from, long_leaf, terms_from, AllKnown}
use Rattle.ly_tree.specs.Private.OfBytes.{AreOfBytes, IsOfBytes}
use Rattle.ly_tree.specs.Private.Printing.{left_of, term_at, term_text, IsOpen}
use Rattle.ly_tree.specs.Term.{Term, Terms, built, leaf, more, none, nothing}
use Rattle.ly_tree.specs.Written.{written, written_all, IsWithin, Notation}
use Rattle.ly_tree.specs.declared.forest.TermRef.{TermRef}
use Rattle.ly_tree.specs.declared.node_span.NodeSpan.{NodeSpan}

-- a child for each reference
pub budget_is : (ls : Lists) (rs : List TermRef) (f : Grown) (each byte : ℕ) → grown ls rs ≡ f
    → budget each byte f ≡ each * length rs + byte * bytes_in ls
budget_is ls rs f each byte is =
    let long : length (terms_from ls [] rs) ≡ length rs = omega (arith, length-terms_from ls [] rs) in
    let count : each * length (terms_from ls [] rs) ≡ each * length rs = ap (λ n. each * n) long in
    omega (arith, ap (budget each byte) is, count)

-- the bytes of leaves that aren't short
pub long_bytes : (long : List (Sym × List ℕ)) (texts : List ℕ) (spans : List NodeSpan)
    → bytes_in (lists_from texts long spans) ≡ length texts + sum (map (λ l. length l.1) long)
long_bytes [] texts spans = refl
long_bytes (l ∷ ls) texts spans =
    omega (
      arith,
      long_bytes ls texts spans,
      sum_by-cons (λ n. n) (length l.1) (map (λ l. length l.1) ls),
      sum_by-cons (λ n. n) (cost 0 1 (long_leaf l)) (map (λ t. cost 0 1 t) (map long_leaf ls)),
    )

-- what a checked sum comes to
pub some_is : (o : Option ℕ) (v n bound : ℕ) → SomeIff o (v < bound) v → v ≡ n → IfSome o (λ x. (x ≡ n) × (x < bound))
some_is (Some x) v n bound h is =
    let within : v < bound = h.0 in
    (h.1 ∙ is, omega (arith, within, h.1))
some_is None v n bound h is = tt

-- A term is written in no more than it costs, with a comma behind it.
module _ (v : Notation) (each byte : ℕ) (within : IsWithin v each byte) where
  mutual
    pub written_within : (t : Term) → IsOfBytes t → length (written v t) + 1 ≤ cost each byte t
    written_within nothing all = within.no_term
    written_within (leaf t bytes) all = within.leaves t bytes all
    written_within (built p ts) all =
        omega (
          arith,
          within.nodes p,
          length-append (v.opens p ++ written_all v ts) v.closes,
          length-append (v.opens p) (written_all v ts),
          all_within ts all,
        )

    all_within : (ts : Terms) → AreOfBytes ts → length (written_all v ts) ≤ costs each byte ts
    all_within none all = omega arith
    all_within (more t none) all = omega (arith, written_within t all.0)
    all_within (more t (more u ts)) all =
        omega (
          arith,
          written_within t all.0,
          all_within (more u ts) all.1,
          length-append (written v t ++ codes ",") (written_all v (more u ts)),
          length-append (written v t) (codes ","),
        )

-- A printer may begin with a term that its forest pays for, where there is so much room.
pub may_begin : (f : Grown) (r : TermRef) (beside : Bor (List TermRef)) (room : ℕ) → IsSome (term_of f r)
    → IsBoundedBySize f (term_at f r) → beside.now ≡ [] → 1 + budget 1 0 f ≤ room → IsOpen f [] beside (Some r) room
may_begin f r beside room known paid alone fits = record {
  waiting_known = λ k d l. absurd (omega (arith, l));
  others_known = subst (AllKnown f) (sym alone) (λ k d l. absurd (omega (arith, l)));
  next_known = known;
  alone = alone;
  fits = omega (arith, paid 1 0, fits, ap (left_of f) alone);
}

-- its line is no longer than it costs
pub line_within : (v : Notation) (f : Grown) (r : TermRef) (each byte n : ℕ) → IsWithin v each byte
    → IsOfBytes (term_at f r) → IsBoundedBySize f (term_at f r) → n ≡ each + budget each byte f
    → length (term_text v f r ++ newline ∷ []) ≤ n
line_within v f r each byte n within bytes paid is =
    omega (
      arith,
      written_within v each byte within (term_at f r) bytes,
      paid each byte,
      is,
      length-append (term_text v f r) (newline ∷ []),
    )
