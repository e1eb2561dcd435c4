-- The terms of the levels of a stack.
use Rattle.std.proofs.Common.{◌≡◌, ℕ, zero, suc, ◌<◌, ◌≤◌, ◌+◌, ◌-◌, List, [], ◌∷◌, ◌++◌, length, drop, take, map}
use Rattle.std.proofs.Common.{Some, None, refl, sym, ap, ◌∙◌, arith, get_or, length-drop, subst, Err, Ok}
use Rattle.std.proofs.lemmas.List.{get_or-drop, take_all}
use Rattle.std.specs.Prelude.{unwrap_or, All, Bool, IfOk, IsSome, OnErr, OnOk, Result, Vec}
use Rattle.std.specs.Global.{Global}
use Rattle.ly_base.specs.Shape.{shape_of}
use Rattle.ly_base.specs.declared.rule_tree.RuleTree.{RuleTree}
use Rattle.ly_base.specs.declared.rule_tree.RuleTree.TheVariants.{Build, Pass}
use Rattle.ly_pack.specs.Machine.{Machine, IsShapeFor}
use Rattle.ly_parse.specs.Feeding.{Level, pop}
use Rattle.ly_parse.specs.Parse.{Parse}
use Rattle.ly_parse.specs.Private.Stack.{level_from, parse_from, stack_from, terms_onto, IsParse}
use Rattle.ly_parse.specs.declared.level.Level as code
use Rattle.ly_parse.proofs.StackLemmas.{above, length-stack_from, stack_from-append}
use Rattle.ly_tree.proofs.StandLemmas.{known_stands}
use Rattle.ly_tree.specs.Forest.{term_of, terms_of, Grown, Keeps, StandsFor}
use Rattle.ly_tree.specs.Term.{Terms, at_place, at_places, built, made, more, none, nothing}
use Rattle.ly_tree.specs.declared.forest.TermRef.{TermRef}

-- popping within a stack
pub pop_within : (n : ℕ) (stack : List Level) (ts : Terms) → n ≤ length stack
    → pop n stack ts ≡ Some (terms_onto (take n stack) ts, drop n stack)
pop_within zero stack ts h = refl
pop_within (suc n) [] ts h = absurd (omega arith)
pop_within (suc n) (l ∷ stack) ts h = pop_within n stack (more l.term ts) (omega arith)

-- and past its bottom
pub pop_past : (n : ℕ) (stack : List Level) (ts : Terms) → length stack < n → pop n stack ts ≡ None
pop_past zero stack ts h = absurd (omega arith)
pop_past (suc n) [] ts h = refl
pop_past (suc n) (l ∷ stack) ts h = pop_past n stack (more l.term ts) (omega arith)

terms_onto-append : (xs ys : List Level) (ts : Terms) → terms_onto (xs ++ ys) ts ≡ terms_onto ys (terms_onto xs ts)
terms_onto-append [] ys ts = refl
terms_onto-append (x ∷ xs) ys ts = terms_onto-append xs ys (more x.term ts)

-- the terms of a body, as they stand in the text
pub body_terms : (f : Grown) (body : List code.Level)
    → terms_onto (stack_from f body) none ≡ terms_of f (map (λ l. l.term) body)
body_terms f [] = refl
body_terms f (l ∷ body) = ap (λ s. terms_onto s none) (stack_from-append f (l ∷ []) body)
    ∙ (terms_onto-append (stack_from f body) (level_from f l ∷ []) none
    ∙ ap (λ ts. more (unwrap_or (term_of f l.term) nothing) ts) (body_terms f body))

-- a level of a body stands for the term at its place
level_stands : (f : Grown) (body : List code.Level) (k : ℕ) (d : code.Level)
    → All (λ l. IsSome (term_of f l.term)) body → k < length body
    → StandsFor f (get_or body k d).term (at_place (terms_of f (map (λ l. l.term) body)) (suc k))
level_stands f [] k d known lt = absurd (omega arith)
level_stands f (l ∷ body) zero d known lt = known_stands f l.term (known 0 l (omega arith))
level_stands f (l ∷ body) (suc k) d known lt =
    level_stands f body k d (λ i e h. known (suc i) e (omega arith)) (omega arith)

-- the terms of the levels above so many, as contracts see them
body_of : (m : Machine) (f : Grown) (levels : List code.Level) (p : Parse) (count : ℕ) (over : Bool) (n : ℕ)
    → parse_from m f levels count over ≡ p
    → terms_onto (take (length p.stack - n) p.stack) none ≡ terms_of f (map (λ l. l.term) (drop n levels))
body_of m f levels p count over n view =
    ap (λ q. terms_onto (take (length q.stack - n) q.stack) none) (sym view)
    ∙ (ap (λ k. terms_onto (take (k - n) (stack_from f levels)) none) (length-stack_from f levels)
    ∙ (ap (λ s. terms_onto s none) (above f levels n) ∙ body_terms f (drop n levels)))

-- how many there are
body_size : (m : Machine) (f : Grown) (levels : List code.Level) (p : Parse) (count : ℕ) (over : Bool) (n : ℕ)
    → parse_from m f levels count over ≡ p → length p.stack - n ≡ length (drop n levels)
body_size m f levels p count over n view =
    let same = ap (λ q. length q.stack) view in
    omega (arith, length-stack_from f levels, length-drop n levels, same)

body_known : (m : Machine) (f : Grown) (levels : List code.Level) (n : ℕ) → IsParse m f levels
    → All (λ l. IsSome (term_of f l.term)) (drop n levels)
body_known m f levels n h k d lt =
    subst (λ l. IsSome (term_of f l.term)) (sym (get_or-drop n levels k d))
    (h.terms (n + k) d (omega (arith, length-drop n levels)))

-- the term that a rule passes on
pub passed : (m : Machine) (f : Grown) (levels : List code.Level) (p : Parse) (count : ℕ) (over : Bool)
    (n i number : ℕ) (l : code.Level) (t : RuleTree) → parse_from m f levels count over ≡ p → IsParse m f levels
    → t ≡ Pass i → IsShapeFor (length p.stack - n) (shape_of t) → l ≡ get_or levels (n + (i - 1)) l
    → StandsFor p.forest l.term (made number (shape_of t) (terms_onto (take (length p.stack - n) p.stack) none))
passed m f levels p count over n i number l t view h pass shape same =
    let within = subst (λ u. IsShapeFor (length p.stack - n) (shape_of u)) pass shape in
    let size = body_size m f levels p count over n view in
    let low = within.0 in
    let high = within.1 in
    let next : suc (i - 1) ≡ i = omega (arith, low) in
    let stands = level_stands f (drop n levels) (i - 1) l (body_known m f levels n h)
    (omega (arith, low, high, size)) in
    subst (λ g. StandsFor g l.term (made number (shape_of t) (terms_onto (take (length p.stack - n) p.stack) none)))
    (ap (λ q. q.forest) view)
    (subst (λ u. StandsFor f l.term (made number (shape_of u) (terms_onto (take (length p.stack - n) p.stack) none)))
    (sym pass)
    (subst (λ ts. StandsFor f l.term (at_place ts i)) (sym (body_of m f levels p count over n view))
    (subst (λ k. StandsFor f l.term (at_place (terms_of f (map (λ l. l.term) (drop n levels))) k)) next
    (subst (λ k. StandsFor f k.term (at_place (terms_of f (map (λ l. l.term) (drop n levels))) (suc (i - 1))))
    (get_or-drop n levels (i - 1) l ∙ sym same) stands))))

-- the levels above so many as a slice of those that are kept
sliced : (w levels : List code.Level) (n : ℕ) → w ≡ levels → take (length w - n) (drop n w) ≡ drop n levels
sliced w levels n whole = ap (λ x. take (length x - n) (drop n x)) whole
    ∙ take_all (length levels - n) (drop n levels) (omega (arith, length-drop n levels))

-- each stands for a term
pub slice_known : (m : Machine) (f : Grown) (levels w : List code.Level) (n : ℕ) → IsParse m f levels → w ≡ levels
    → All (λ l. IsSome (term_of f l.term)) (take (length w - n) (drop n w))
slice_known m f levels w n h whole =
    subst (All (λ l. IsSome (term_of f l.term))) (sym (sliced w levels n whole)) (body_known m f levels n h)

-- the places of a node's children are there
pub slice_places : (m : Machine) (f : Grown) (levels : List code.Level) (p : Parse) (count : ℕ) (over : Bool) (n : ℕ)
    (name places : Vec ℕ Global) (t : RuleTree) (w : List code.Level) (is : List ℕ)
    → parse_from m f levels count over ≡ p → t ≡ Build name places
    → IsShapeFor (length p.stack - n) (shape_of t) → w ≡ levels → is ≡ places.items
    → All (λ i. (1 ≤ i) × (i ≤ length (take (length w - n) (drop n w)))) is
slice_places m f levels p count over n name places t w is view build shape whole same =
    let within = (subst (λ u. IsShapeFor (length p.stack - n) (shape_of u)) build shape).1 in
    subst (λ k. All (λ i. (1 ≤ i) × (i ≤ k)) is)
    (body_size m f levels p count over n view ∙ ap (λ x. length x) (sym (sliced w levels n whole)))
    (subst (All (λ i. (1 ≤ i) × (i ≤ length p.stack - n))) (sym same) within)

-- so the node is what the rule makes
pub node_made : {E : Type 0} (m : Machine) (f g : Grown) (levels : List code.Level) (p : Parse) (count : ℕ)
    (over : Bool) (n number : ℕ) (name places : Vec ℕ Global) (t : RuleTree) (w : List code.Level) (is : List ℕ)
    (r : Result TermRef E) → parse_from m f levels count over ≡ p → t ≡ Build name places → w ≡ levels
    → is ≡ places.items → IfOk r (λ k. StandsFor g k
    (built number (at_places (terms_of f (map (λ l. l.term) (take (length w - n) (drop n w)))) is)))
    → IfOk r (λ k. StandsFor g k (made number (shape_of t) (terms_onto (take (length p.stack - n) p.stack) none)))
node_made m f g levels p count over n number name places t w is (Err e) view build whole same stands = stands
node_made m f g levels p count over n number name places t w is (Ok k) view build whole same stands =
    let terms = ap (λ x. terms_of f (map (λ l. l.term) x)) (sliced w levels n whole)
    ∙ sym (body_of m f levels p count over n view) in
    subst (λ u. StandsFor g k (made number (shape_of u) (terms_onto (take (length p.stack - n) p.stack) none)))
    (sym build)
    (subst (λ ts. StandsFor g k (built number (at_places ts places.items))) terms
    (subst (λ ps. StandsFor g k
    (built number (at_places (terms_of f (map (λ l. l.term) (take (length w - n) (drop n w)))) ps))) same stands))

-- a call that adds to a forest, or leaves it as it was, keeps the terms
pub kept_either : {T E : Type 0} (f g : Grown) (r : Result T E) → OnOk r (Keeps f g) → OnErr r (g ≡ f) → Keeps f g
kept_either f g (Ok x) ok err = ok
kept_either f g (Err e) ok err = λ n t s. subst (λ h. StandsFor h n t) (sym err) s
