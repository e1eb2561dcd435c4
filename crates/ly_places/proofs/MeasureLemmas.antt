-- Measures of terms, and the shapes of rules.
use Rattle.std.proofs.Common.{◌≡◌, ◌∙◌, ℕ, zero, suc, ◌+◌, ◌-◌, ◌<◌, ◌≤◌, List, [], ◌∷◌, ◌++◌, Some, ap, arith}
use Rattle.std.proofs.Common.{drop, get_or, length, map, option_map, refl, slice_get, subst, sym, take, unwrap_or}
use Rattle.std.proofs.lemmas.List.{drop-map, length-map, map_more, take-map}
use Rattle.std.proofs.lemmas.Option.{slice_get-get_or, slice_get-map, slice_get_past, slice_get_read}
use Rattle.std.specs.Prelude.{is_some, IsSome}
use Rattle.ly_base.specs.Shape.{Shape, nil, shape_of}
use Rattle.ly_pack.specs.Values.{rule_from}
use Rattle.ly_pack.specs.declared.rule.TableRule as rule
use Rattle.ly_places.specs.Private.Measured.{measure_of, measures_of, parts_at, parts_made, tokens_among, IsAmong}
use Rattle.ly_parse.specs.Deriving.{shape_of_rule}
use Rattle.ly_places.specs.declared.measure.Measure.{Measure}
use Rattle.ly_tree.proofs.ChildLemmas.{child_stands}
use Rattle.ly_tree.proofs.StandLemmas.{stands_known}
use Rattle.ly_tree.specs.Forest.{all_of, node_over, term_of, Grown}
use Rattle.ly_tree.specs.Look.{AreChildren, IsSeen}
use Rattle.ly_tree.specs.Term.{Term, built, nothing}
use Rattle.ly_tree.specs.declared.forest.TermRef.{TermRef}
use Rattle.ly_tree.specs.declared.look.Look.{Look}
use Rattle.ly_tree.specs.declared.look.Look.TheVariants.{Leaf, Node, Nothing}
use Rattle.ly_tree.specs.declared.node_span.NodeSpan.{NodeSpan}
use Rattle.ly_tree.proofs.PieceLemmas.{mapped_some, piece_inside, piece_is}

-- there is no place 0
pub parts_at_none : (ms : List Measure) (i : ℕ) → i < 1 → 1 ≡ parts_at ms i
parts_at_none [] i h = refl
parts_at_none (m ∷ ms) zero h = refl
parts_at_none (m ∷ ms) (suc i) h = absurd (omega arith)

pub parts_at_there : (ms : List Measure) (k i : ℕ) (m : Measure) → i ≡ suc k → k < length ms → m ≡ get_or ms k m
    → m.parts ≡ parts_at ms i
parts_at_there [] k i m e h is = absurd (omega arith)
parts_at_there (n ∷ ms) k zero m e h is = absurd (omega arith)
parts_at_there (n ∷ ms) zero (suc zero) m e h is = ap (λ x. x.parts) is
parts_at_there (n ∷ ms) zero (suc (suc i)) m e h is = absurd (omega arith)
parts_at_there (n ∷ ms) (suc k) (suc zero) m e h is = absurd (omega arith)
parts_at_there (n ∷ ms) (suc k) (suc (suc i)) m e h is = parts_at_there ms k (suc i) m (omega arith) (omega arith) is

pub parts_at_past : (ms : List Measure) (k i : ℕ) → i ≡ suc k → length ms ≤ k → 1 ≡ parts_at ms i
parts_at_past [] k i e h = refl
parts_at_past (n ∷ ms) k zero e h = refl
parts_at_past (n ∷ ms) k (suc zero) e h = absurd (omega arith)
parts_at_past (n ∷ ms) zero (suc (suc i)) e h = absurd (omega arith)
parts_at_past (n ∷ ms) (suc k) (suc (suc i)) e h = parts_at_past ms k (suc i) (omega arith) (omega arith)

-- the shape of a rule that is there
pub shape_there : (rules : List rule.TableRule) (p k : ℕ) (r : rule.TableRule) → k ≡ p - 1 → k < length rules
    → r ≡ get_or rules k r → shape_of r.tree ≡ shape_of_rule (map rule_from rules) p
shape_there rules zero k r e h is =
    let same : k ≡ 0 = omega (arith, e) in
    sym (ap (λ o. unwrap_or (option_map (λ x. x.shape) o) nil)
    (slice_get-map rule_from rules 0
    ∙ ap (option_map rule_from) (ap (slice_get rules) (sym same) ∙ slice_get_read rules (length rules) k r refl h is)))
shape_there rules (suc p) k r e h is =
    let same : k ≡ p = omega (arith, e) in
    sym (ap (λ o. unwrap_or (option_map (λ x. x.shape) o) nil)
    (slice_get-map rule_from rules p
    ∙ ap (option_map rule_from) (ap (slice_get rules) (sym same) ∙ slice_get_read rules (length rules) k r refl h is)))

pub shape_past : (rules : List rule.TableRule) (p k : ℕ) → k ≡ p - 1 → length rules ≤ k
    → nil ≡ shape_of_rule (map rule_from rules) p
shape_past rules zero k e h =
    sym (ap (λ o. unwrap_or (option_map (λ x. x.shape) o) nil)
    (slice_get-map rule_from rules 0
    ∙ ap (option_map rule_from) (slice_get_past rules 0 (omega (arith, e, h)))))
shape_past rules (suc p) k e h =
    sym (ap (λ o. unwrap_or (option_map (λ x. x.shape) o) nil)
    (slice_get-map rule_from rules p
    ∙ ap (option_map rule_from) (slice_get_past rules p (omega (arith, e, h)))))

-- the measures of terms one after another
pub measures_are : (shape : ℕ → Shape) (ts : List Term) → measures_of shape (all_of ts) ≡ map (measure_of shape) ts
measures_are shape [] = refl
measures_are shape (t ∷ ts) = ap (λ ms. measure_of shape t ∷ ms) (measures_are shape ts)

-- what is seen of a term has its children among those that are there
pub seen_within : (look : Look) (children : List Term) (t : Term) → IsSeen children look (Some t)
    → IsAmong look (length children)
seen_within Nothing children t h = tt
seen_within (Leaf l) children t h = tt
seen_within (Node s) children t h =
    piece_inside s.start s.count children (mapped_some (λ ts. built s.rule.0 (all_of ts)) _ (sym (ap is_some h)))

-- the term of a node that is seen
pub seen_node : (s : NodeSpan) (children : List Term) (t : Term) → Some t ≡ node_over children s.count s.rule.0 s.start
    → t ≡ built s.rule.0 (all_of (take s.count (drop s.start children)))
seen_node s children t h =
    let within = seen_within (Node s) children t h in
    cc (h, ap (option_map (λ ts. built s.rule.0 (all_of ts))) (piece_is s.start s.count children within))

-- the measures of a node's children
pub body_measured : (shape : ℕ → Shape) (s : NodeSpan) (children : List Term) (ms : List Measure)
    → ms ≡ map (measure_of shape) children
    → take s.count (drop s.start ms) ≡ map (measure_of shape) (take s.count (drop s.start children))
body_measured shape s children ms measured =
    ap (λ xs. take s.count (drop s.start xs)) measured
    ∙ (ap (take s.count) (drop-map (measure_of shape) s.start children)
    ∙ take-map (measure_of shape) s.count (drop s.start children))

-- the measure of a node, by those of its children
pub node_measured : (shape : ℕ → Shape) (s : NodeSpan) (children : List Term) (t : Term) (ms body : List Measure)
    (m : Measure) → Some t ≡ node_over children s.count s.rule.0 s.start → ms ≡ map (measure_of shape) children
    → body ≡ take s.count (drop s.start ms) → m.tokens ≡ tokens_among body
    → m.parts ≡ parts_made (shape s.rule.0) body → m ≡ measure_of shape t
node_measured shape s children t ms body m seen measured is tokens parts =
    let mine = take s.count (drop s.start children) in
    let there : body ≡ measures_of shape (all_of mine)
    = is ∙ (body_measured shape s children ms measured ∙ sym (measures_are shape mine)) in
    let whole : m ≡ measure_of shape (built s.rule.0 (all_of mine))
    = λ i. record {
      tokens = (tokens ∙ ap tokens_among there) i;
      parts = (parts ∙ ap (parts_made (shape s.rule.0)) there) i;
    } in
    whole ∙ ap (measure_of shape) (sym (seen_node s children t seen))

-- a child is there
pub child_known : (f : Grown) (rs : List TermRef) (k : ℕ) (d : TermRef) → AreChildren f rs → k < length rs
    → IsSome (term_of f (get_or rs k d))
child_known f rs k d h lt =
    stands_known f (get_or rs k d) (get_or f.children k nothing)
    (child_stands f rs k (get_or rs k d) h (slice_get-get_or rs k d lt))

-- and is seen over those before it
pub child_seen : (f : Grown) (rs : List TermRef) (k : ℕ) (d : TermRef) (look : Look) → AreChildren f rs
    → k < length rs
    → ((children : List Term) → IsSeen children look
    (term_of (record { lists = f.lists; children = children }) (get_or rs k d)))
    → IsSeen (take k f.children) look (Some (get_or f.children k nothing))
child_seen f rs k d look h lt seen =
    subst (IsSeen (take k f.children) look) (h.stand k (get_or rs k d) (slice_get-get_or rs k d lt))
    (seen (take k f.children))

pub child_within : (shape : ℕ → Shape) (children : List Term) (t : Term) (look : Look) (ms : List Measure)
    → IsSeen children look (Some t) → ms ≡ map (measure_of shape) children → IsAmong look (length ms)
child_within shape children t look ms seen is =
    let long : length children ≡ length ms = sym (ap length is ∙ length-map children (measure_of shape)) in
    subst (IsAmong look) long (seen_within look children t seen)

pub one_measured : (shape : ℕ → Shape) (children : List Term) (k : ℕ) (ms longer : List Measure) (m : Measure)
    → k < length children → ms ≡ map (measure_of shape) (take k children)
    → m ≡ measure_of shape (get_or children k nothing) → longer ≡ ms ++ m ∷ []
    → longer ≡ map (measure_of shape) (take (k + 1) children)
one_measured shape children k ms longer m lt is same more =
    more ∙ (ap (λ xs. xs ++ m ∷ []) is
    ∙ (ap (λ x. map (measure_of shape) (take k children) ++ x ∷ []) same
    ∙ sym (map_more (measure_of shape) children k nothing lt)))
