-- A term that is taken: its part is listed, and what it consists of waits.
use Rattle.std.proofs.Common.{◌≡◌, ◌∙◌, ℕ, zero, suc, ◌+◌, ◌≤◌, List, [], ◌∷◌, ◌++◌, All, Some, ap, append-nil}
use Rattle.std.proofs.Common.{append_assoc, arith, drop, get_or, length, map, refl, subst, sym, take}
use Rattle.std.proofs.lemmas.List.{drop_more, length-drop, length-map, length-take-le, reverse-append}
use Rattle.std.proofs.lemmas.List.Elements.{All-append, All-head, All-nil, All-push, All-tail}
use Rattle.std.proofs.lemmas.Option.{slice_get-get_or}
use Rattle.std.specs.Prelude.{IsSome, reverse}
use Rattle.ly_base.specs.Shape.{Shape, nil, node, place}
use Rattle.ly_pack.specs.Machine.{IsShapeFor}
use Rattle.ly_places.proofs.BodyLemmas.{all_ready_there, body_length, body_placed, body_ready, body_visits, in_a_row}
use Rattle.ly_places.proofs.BodyLemmas.{in_order, listed-push, listed-reverse, placed_there, places_listed, ready_there}
use Rattle.ly_places.proofs.BodyLemmas.{visits-push, visits-reverse, visits_listed, visits_there}
use Rattle.ly_places.proofs.MeasureLemmas.{body_measured, measures_are, seen_node, seen_within}
use Rattle.ly_places.proofs.SizeLemmas.{size}
use Rattle.ly_places.specs.Parts.{parts_of}
use Rattle.ly_places.specs.Placed.{made}
use Rattle.ly_places.specs.Private.Kept.{first_extent, placed_term, placed_terms, terms_count, IsWhole}
use Rattle.ly_places.specs.Private.Measured.{measure_of, tokens_among}
use Rattle.ly_places.specs.Private.Waiting.{body_from, kind_of, listed, placed_at, visits, visits_left}
use Rattle.ly_places.specs.Private.Waiting.{last_end, visits_made, waiting_at, IsListed, IsOpened, IsReady}
use Rattle.ly_spans.specs.declared.span.Span.{Span}
use Rattle.ly_places.specs.declared.flattening.Listing.{Listing}
use Rattle.ly_places.specs.declared.flattening.Waiting.{Waiting}
use Rattle.ly_places.specs.declared.measure.Measure.{Measure}
use Rattle.ly_places.specs.declared.part.Part.{Part}
use Rattle.ly_places.specs.declared.part.PartKind.{PartKind}
use Rattle.ly_places.specs.declared.part.PartKind.TheVariants as kind
use Rattle.ly_tree.proofs.ChildLemmas.{child_stands}
use Rattle.ly_tree.proofs.StandLemmas.{known_stands}
use Rattle.ly_tree.specs.Forest.{all_of, term_of, Grown, StandForAll}
use Rattle.ly_tree.specs.Look.{AreChildren, IsSeen}
use Rattle.ly_tree.specs.Private.Printing.{term_at}
use Rattle.ly_tree.specs.Term.{Term, built}
use Rattle.ly_tree.specs.Term as term
use Rattle.ly_tree.specs.declared.forest.TermRef.{TermRef}
use Rattle.ly_tree.specs.declared.forest.TermRef.TheVariants as ref
use Rattle.ly_tree.specs.declared.look.Look.{Look}
use Rattle.ly_tree.specs.declared.look.Look.TheVariants.{Leaf, Node, Nothing}
use Rattle.ly_tree.specs.declared.node_span.NodeSpan.{NodeSpan}

-- a term that is there is seen
pub term_seen : (f : Grown) (r : TermRef) (look : Look) → IsSome (term_of f r)
    → ((children : List Term) → IsSeen children look
    (term_of (record { lists = f.lists; children = children }) r))
    → IsSeen f.children look (Some (term_at f r))
term_seen f r look known seen = subst (IsSeen f.children look) (known_stands f r known) (seen f.children)

-- how many terms stand one after another
count_is : (ts : List Term) → terms_count (all_of ts) ≡ length ts
count_is [] = refl
count_is (t ∷ ts) = ap suc (count_is ts)

-- the references to the children of a node stand for them
pub children_stand_all : (f : Grown) (rs : List TermRef) (start count : ℕ) → AreChildren f rs
    → start + count ≤ length rs
    → StandForAll f (take count (drop start rs)) (all_of (take count (drop start f.children)))
children_stand_all f rs start zero h within = tt
children_stand_all f rs start (suc count) h within =
    let r = get_or rs start ref.Nothing in
    let t = get_or f.children start term.nothing in
    let refs : drop start rs ≡ r ∷ drop (start + 1) rs = drop_more rs start ref.Nothing (omega arith) in
    let terms : drop start f.children ≡ t ∷ drop (start + 1) f.children
    = drop_more f.children start term.nothing (omega (arith, h.count)) in
    subst (λ us. StandForAll f (take (suc count) (drop start rs)) (all_of (take (suc count) us))) (sym terms)
    (subst (λ qs. StandForAll f (take (suc count) qs) (all_of (t ∷ take count (drop (start + 1) f.children))))
    (sym refs) (
      child_stands f rs start r h (slice_get-get_or rs start ref.Nothing (omega arith)),
      children_stand_all f rs (start + 1) count h (omega arith),
    ))

-- what is known of a node that is seen
pub record IsNode (shape : ℕ → Shape) (f : Grown) (ms : List Measure) (s : NodeSpan) (t : Term) : Type 0 where
  pub is : t ≡ built s.rule.0 (all_of (take s.count (drop s.start f.children)))
  pub within : s.start + s.count ≤ length f.children
  pub measured : s.start + s.count ≤ length ms
  pub tokens : tokens_among (take s.count (drop s.start ms)) ≡ (measure_of shape t).tokens

pub node_seen : (shape : ℕ → Shape) (f : Grown) (ms : List Measure) (s : NodeSpan) (t : Term)
    → IsSeen f.children (Node s) (Some t) → ms ≡ map (measure_of shape) f.children → IsNode shape f ms s t
node_seen shape f ms s t seen measured =
    let mine = take s.count (drop s.start f.children) in
    let is = seen_node s f.children t seen in
    let within = seen_within (Node s) f.children t seen in record {
      is = is;
      within = within;
      measured = omega (arith, within, ap length measured, length-map f.children (measure_of shape));
      tokens = ap tokens_among (body_measured shape s f.children ms measured ∙ sym (measures_are shape mine))
          ∙ ap (λ u. (measure_of shape u).tokens) (sym is);
    }

pub node_shaped : (shape : ℕ → Shape) (f : Grown) (ms : List Measure) (s : NodeSpan) (t : Term) → IsNode shape f ms s t
    → IsWhole shape t → IsShapeFor s.count (shape s.rule.0)
node_shaped shape f ms s t seen whole =
    let mine = take s.count (drop s.start f.children) in
    let count : terms_count (all_of mine) ≡ s.count
    = count_is mine ∙ length-take-le s.count (drop s.start f.children)
    (omega (arith, seen.within, length-drop s.start f.children)) in
    subst (λ n. IsShapeFor n (shape s.rule.0)) count (subst (IsWhole shape) seen.is whole).0

-- the part of a node
abbrev pub node_part : ℕ → Span → ℕ → Part
node_part rule e n = record { kind = kind.Node (record { 0 = rule }); extent = e; parts = n }

-- the part with another kind
abbrev of_kind : PartKind → Part → Part
of_kind k p = record p { kind = k }

module _ (shape : ℕ → Shape) (tokens : List Span) (f : Grown) where
  -- parts that are listed, and those that follow them at once
  parts_follow : (next : Waiting) (old new : Listing) (here behind : List Part)
      → new.parts.items ≡ old.parts.items ++ here
      → listed shape tokens f new.waiting.items ≡ behind ++ listed shape tokens f old.waiting.items
      → parts_of (placed_at shape tokens f next) ≡ here ++ behind
      → new.parts.items ++ listed shape tokens f new.waiting.items
      ≡ old.parts.items ++ (parts_of (placed_at shape tokens f next) ++ listed shape tokens f old.waiting.items)
  parts_follow next old new here behind parts left is =
      let rest = listed shape tokens f old.waiting.items in
      ap (λ ps. ps ++ listed shape tokens f new.waiting.items) parts
      ∙ (append_assoc old.parts.items here (listed shape tokens f new.waiting.items)
      ∙ ap (λ ps. old.parts.items ++ ps)
      (ap (λ ps. here ++ ps) left
      ∙ (sym (append_assoc here behind rest) ∙ ap (λ ps. ps ++ rest) (sym is))))

  -- a term that has no children
  pub plain_listed : (next : Waiting) (p : Part) (old new : Listing) → parts_of (placed_at shape tokens f next) ≡ p ∷ []
      → visits shape (term_at f next.term) ≡ 1 → All (IsReady shape tokens f) old.waiting.items
      → new.parts.items ≡ old.parts.items ++ p ∷ [] → new.waiting.items ≡ old.waiting.items
      → IsListed shape tokens f next old new
  plain_listed next p old new is one ready parts waiting = record {
    parts = parts_follow next old new (p ∷ []) [] parts (ap (listed shape tokens f) waiting) is;
    ready = subst (All (IsReady shape tokens f)) (sym waiting) ready;
    fewer = omega (arith, one, ap (visits_left shape f) waiting);
  }

  -- what is known of a node that is taken
  pub record IsTaken (next : Waiting) (rule : ℕ) (sh : Shape) (e : Span) (p : Part) (b : List Waiting) : Type 0 where
    pub part : p ≡ node_part rule e (length (parts_of (placed_at shape tokens f next)))
    pub placed : placed_at shape tokens f next ≡ made rule sh e (in_a_row (map (placed_at shape tokens f) b))
    pub visits : visits shape (term_at f next.term) ≡ 1 + visits_made sh (map (λ w. visits shape (term_at f w.term)) b)
    pub fits : IsShapeFor (length b) sh
    pub ready : All (IsReady shape tokens f) b

  pub node_listed : (next : Waiting) (rule : ℕ) (sh : Shape) (e : Span) (p : Part) (b : List Waiting)
      (old new : Listing) → IsTaken next rule sh e p b → All (IsReady shape tokens f) old.waiting.items
      → IsOpened sh p b old new → IsListed shape tokens f next old new
  node_listed next rule nil e p b old new h ready opened =
      let same = ap parts_of h.placed in
      let is : parts_of (placed_at shape tokens f next) ≡ record p { kind = kind.Nothing } ∷ []
      = same ∙ ap (λ q. q ∷ []) (sym (ap (of_kind kind.Nothing)
      (h.part ∙ ap (node_part rule e) (ap length same)))) in
      plain_listed next (record p { kind = kind.Nothing }) old new is (omega (arith, h.visits)) ready opened.0 opened.1
  node_listed next rule (place i) e p b old new h ready opened =
      let there = placed_there shape tokens f b i _ h.fits.0 h.fits.1 in
      let w = waiting_at b i in record {
        parts = parts_follow next old new [] (parts_of (placed_at shape tokens f w))
            (opened.0 ∙ sym (append-nil old.parts.items))
            (ap (listed shape tokens f) opened.1 ∙ listed-push shape tokens f old.waiting.items w)
            (ap parts_of (h.placed ∙ there));
        ready = subst (All (IsReady shape tokens f)) (sym opened.1)
            (All-push (IsReady shape tokens f) old.waiting.items w ready
            (ready_there shape tokens f b i h.ready h.fits.0 h.fits.1));
        fewer = omega (
          arith,
          h.visits,
          visits_there shape tokens f b i h.fits.0 h.fits.1,
          ap (visits_left shape f) opened.1,
          visits-push shape tokens f old.waiting.items w,
        );
      }
  node_listed next rule (node name is) e p b old new h ready opened =
      let places = places_listed shape tokens f b is _ h.fits.1 in
      let ws = map (waiting_at b) is in
      let same = ap parts_of h.placed in record {
        parts = parts_follow next old new (p ∷ []) (in_order shape tokens f ws) opened.0
            (ap (listed shape tokens f) opened.1 ∙ listed-reverse shape tokens f old.waiting.items ws)
            (same ∙ (λ k. sym (h.part ∙ ap (node_part rule e) (ap length same)) k ∷ places k));
        ready = subst (All (IsReady shape tokens f)) (sym opened.1)
            (All-append (IsReady shape tokens f) old.waiting.items (reverse ws) ready
            (backwards ws (all_ready_there shape tokens f b is h.ready h.fits.1)));
        fewer = omega (
          arith,
          h.visits,
          visits_listed shape tokens f b is h.fits.1,
          ap (visits_left shape f) opened.1,
          visits-reverse shape tokens f old.waiting.items ws,
        );
      }
    where
      backwards : (ws : List Waiting) → All (IsReady shape tokens f) ws → All (IsReady shape tokens f) (reverse ws)
      backwards [] h = h
      backwards (w ∷ ws) h =
          subst (All (IsReady shape tokens f)) (sym (reverse-append (w ∷ []) ws))
          (All-push (IsReady shape tokens f) (reverse ws) w (backwards ws (All-tail (IsReady shape tokens f) w ws h))
          (All-head (IsReady shape tokens f) w ws h))

  -- a node is taken
  pub node_taken : (next : Waiting) (rs : List TermRef) (ms : List Measure) (s : NodeSpan) (p : Part)
      → IsNode shape f ms s (term_at f next.term) → AreChildren f rs → ms ≡ map (measure_of shape) f.children
      → IsReady shape tokens f next → p.kind ≡ kind.Node s.rule
      → p.extent ≡ first_extent next.last (measure_of shape (term_at f next.term)).tokens (drop next.first tokens)
      → p.parts ≡ (measure_of shape (term_at f next.term)).parts
      → IsTaken next s.rule.0 (shape s.rule.0) p.extent p
      (body_from tokens next.first p.extent.start (take s.count (drop s.start rs)) (take s.count (drop s.start ms)))
  node_taken next rs ms s p seen children measured ready kind extent parts =
      let t = term_at f next.term in
      let es = drop next.first tokens in
      let mine = take s.count (drop s.start f.children) in
      let refs = take s.count (drop s.start rs) in
      let theirs = body_measured shape s f.children ms measured in
      let stand = children_stand_all f rs s.start s.count children (omega (arith, seen.within, children.count)) in
      let whole = subst (IsWhole shape) seen.is ready.whole in
      let here : first_extent next.last (measure_of shape (built s.rule.0 (all_of mine))).tokens es ≡ p.extent
      = ap (λ u. first_extent next.last (measure_of shape u).tokens es) (sym seen.is) ∙ sym extent in
      let body : List Measure → List Waiting = λ xs. body_from tokens next.first p.extent.start refs xs in record {
        part = λ i. record {
          kind = kind i;
          extent = p.extent;
          parts = (parts ∙ size shape t next.last es) i;
        };
        placed = ap (placed_term shape next.last es) seen.is
            ∙ (ap (λ x. made s.rule.0 (shape s.rule.0) x (placed_terms shape x.start es (all_of mine))) here
            ∙ (ap (made s.rule.0 (shape s.rule.0) p.extent)
            (sym (body_placed shape tokens f refs mine next.first p.extent.start stand))
            ∙ ap (λ xs. made s.rule.0 (shape s.rule.0) p.extent
            (in_a_row (map (placed_at shape tokens f) (body xs)))) (sym theirs)));
        visits = ap (visits shape) seen.is
            ∙ ap (λ ns. 1 + visits_made (shape s.rule.0) ns)
            (sym (body_visits shape tokens f refs mine next.first p.extent.start stand)
            ∙ ap (λ xs. map (λ w. visits shape (term_at f w.term)) (body xs)) (sym theirs));
        fits = subst (λ n. IsShapeFor n (shape s.rule.0)) (sym (body_length tokens next.first p.extent.start s.start
            s.count rs ms (omega (arith, seen.within, children.count)) seen.measured))
            (node_shaped shape f ms s t seen ready.whole);
        ready = subst (λ xs. All (IsReady shape tokens f) (body xs)) (sym theirs)
            (body_ready shape tokens f refs mine next.first p.extent.start stand whole.1
            (omega (arith, ready.within, seen.tokens, ap tokens_among theirs)));
      }

  plain_as : (next : Waiting) (t : Term) (p : Part) (k : PartKind) → term_at f next.term ≡ t
      → parts_of (placed_term shape next.last (drop next.first tokens) t) ≡ record {
        kind = k;
        extent = first_extent next.last (measure_of shape t).tokens (drop next.first tokens);
        parts = (measure_of shape t).parts;
      } ∷ []
      → p.kind ≡ k
      → p.extent ≡ first_extent next.last (measure_of shape (term_at f next.term)).tokens (drop next.first tokens)
      → p.parts ≡ (measure_of shape (term_at f next.term)).parts
      → parts_of (placed_at shape tokens f next) ≡ p ∷ []
  plain_as next t p k is made kind extent parts =
      let es = drop next.first tokens in
      ap (λ u. parts_of (placed_term shape next.last es u)) is ∙ (made ∙ λ i. record {
        kind = sym kind i;
        extent = sym (extent ∙ ap (λ u. first_extent next.last (measure_of shape u).tokens es) is) i;
        parts = sym (parts ∙ ap (λ u. (measure_of shape u).parts) is) i;
      } ∷ [])

  -- a term without children is taken
  pub plain_taken : (next : Waiting) (look : Look) (p : Part)
      → IsSeen f.children look (Some (term_at f next.term)) → ((s : NodeSpan) → look ≡ Node s → ⊥)
      → p.kind ≡ kind_of look
      → p.extent ≡ first_extent next.last (measure_of shape (term_at f next.term)).tokens (drop next.first tokens)
      → p.parts ≡ (measure_of shape (term_at f next.term)).parts
      → (parts_of (placed_at shape tokens f next) ≡ p ∷ []) × (visits shape (term_at f next.term) ≡ 1)
  plain_taken next Nothing p seen other kind extent parts =
      let is : term_at f next.term ≡ term.nothing = cc in (
        plain_as next term.nothing p _ is refl kind extent parts,
        ap (visits shape) is,
      )
  plain_taken next (Leaf t) p seen other kind extent parts =
      let same = seen.1 in
      let is : term_at f next.term ≡ term.leaf t.0 seen.0 = cc in (
        plain_as next (term.leaf t.0 seen.0) p _ is refl kind extent parts,
        ap (visits shape) is,
      )
  plain_taken next (Node s) p seen other kind extent parts = absurd (other s refl)

  -- at first the root waits alone
  pub root_waits : (root : TermRef) (first last : ℕ) (parts : List Part) (ws : List Waiting)
      → IsSome (term_of f root) → IsWhole shape (term_at f root)
      → first + (measure_of shape (term_at f root)).tokens ≡ length tokens → last ≡ last_end (take first tokens)
      → parts ≡ [] → ws ≡ record { term = root; first = first; last = last } ∷ []
      → (parts ++ listed shape tokens f ws
      ≡ parts_of (placed_term shape (last_end (take first tokens)) (drop first tokens) (term_at f root)))
      × All (IsReady shape tokens f) ws
  root_waits root first last parts ws known whole within end none alone =
      let w : Waiting = record { term = root; first = first; last = last } in (
        (λ i. none i ++ listed shape tokens f (alone i))
            ∙ ap (λ n. parts_of (placed_term shape n (drop first tokens) (term_at f root))) end,
        subst (All (IsReady shape tokens f)) (sym alone)
            (All-push (IsReady shape tokens f) [] w (All-nil (IsReady shape tokens f))
            (record { known = known; whole = whole; within = omega arith })),
      )
