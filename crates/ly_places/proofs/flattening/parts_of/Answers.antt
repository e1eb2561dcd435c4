use Rattle.std.proofs.Common.{◌≡◌, ◌∙◌, ◌-◌, ◌++◌, All, ℕ, [], ◌∷◌, ap, append-nil, arith, length, map}
use Rattle.std.proofs.Common.{subst, sym, take}
use Rattle.std.proofs.lemmas.List.{nil_from_length}
use Rattle.std.proofs.lemmas.List.Elements.{All-take}
use Rattle.ly_base.proofs.ListLemmas.{All-last}
use Rattle.ly_base.specs.Shape.{Shape}
use Rattle.ly_pack.specs.Values.{rule_from}
use Rattle.ly_places.proofs.BodyLemmas.{listed-push, visits-push}
use Rattle.ly_places.proofs.KeptLemmas.{derived_root}
use Rattle.ly_places.proofs.ListedLemmas.{root_waits, term_seen}
use Rattle.ly_places.proofs.MeasureLemmas.{child_within}
use Rattle.ly_places.specs.Parts.{parts_of}
use Rattle.ly_places.specs.Private.Measured.{measure_of}
use Rattle.ly_places.specs.Private.Waiting.{last_end, listed, visits_left, IsReady}
use Rattle.ly_parse.specs.Deriving.{shape_of_rule}
use Rattle.ly_places.specs.declared.flattening.Waiting.{Waiting}
use Rattle.ly_tree.specs.Private.Printing.{term_at}
use Rattle.ly_places.proofs.flattening.parts_of.Goals as goal

pub measured-requires : goal.measured-requires
measured-requires c =
    let f = c.args.forest.now in
    let rules = map rule_from c.args.rules.now in
    let root = derived_root f c.args.root c.args.tokens.now rules c.requires.derived.0 c.requires.derived.1
    c.requires.shaped c.requires.derived.2 in
    child_within (shape_of_rule rules) f.children (term_at f c.args.root) c.look.result c.deref.result.now
    (term_seen f c.args.root c.look.result root.known c.look.ensures)
    (c.deref.ensures.value ∙ c.in_ok-measures.ensures)

pub overflow_sub-first : goal.overflow_sub-first
overflow_sub-first c =
    let f = c.args.forest.now in
    let rules = map rule_from c.args.rules.now in
    let root = derived_root f c.args.root c.args.tokens.now rules c.requires.derived.0 c.requires.derived.1
    c.requires.shaped c.requires.derived.2 in
    omega (
      arith,
      root.within,
      ap (λ m. m.tokens) (c.in_ok-whole.ensures f.children (term_at f c.args.root)
          (term_seen f c.args.root c.look.result root.known c.look.ensures)
          (c.deref.ensures.value ∙ c.in_ok-measures.ensures)),
    )

pub loop-next-init : goal.loop-next-init
loop-next-init c =
    let f = c.args.forest.now in
    let tokens = c.args.tokens.now in
    let rules = map rule_from c.args.rules.now in
    let shape : ℕ → Shape = shape_of_rule rules in
    let root = derived_root f c.args.root tokens rules c.requires.derived.0 c.requires.derived.1 c.requires.shaped
    c.requires.derived.2 in
    let whole : c.in_ok-whole.whole.tokens ≡ (measure_of shape (term_at f c.args.root)).tokens
    = ap (λ m. m.tokens) (c.in_ok-whole.ensures f.children (term_at f c.args.root)
    (term_seen f c.args.root c.look.result root.known c.look.ensures)
    (c.deref.ensures.value ∙ c.in_ok-measures.ensures)) in
    let first : ℕ = length tokens - c.in_ok-whole.whole.tokens in
    let end : c.last_end.result ≡ last_end (take first tokens) = c.last_end.ensures in
    let w : Waiting = record { term = c.args.root; first = first; last = c.last_end.result } in
    let pushed : c.push.new.self.items ≡ c.new.result.items ++ w ∷ [] = c.in_ok-push.ensures.items in
    let alone : c.push.new.self.items ≡ w ∷ [] = pushed ∙ ap (λ ws. ws ++ w ∷ []) c.new.ensures.items in
    let start = root_waits shape tokens f c.args.root first c.last_end.result c.in_ok-with_capacity.field-0.items
    c.push.new.self.items root.known root.whole (omega (arith, whole, root.within)) end
    c.in_ok-with_capacity.ensures.items alone in
    record { parts = start.0; ready = start.1 }

pub list-requires-clause-ready : goal.list-requires-clause-ready
list-requires-clause-ready c =
    let ready : ℕ → Shape = shape_of_rule (map rule_from c.args.rules.now) in
    All-last (IsReady ready c.args.tokens.now c.args.forest.now) c.pop.new.self.items c.in-Some.next
    (subst (All (IsReady ready c.args.tokens.now c.args.forest.now)) c.in-Some.ensures.items
    c.loop-next.invariant.ready)

pub list-requires-clause-others : goal.list-requires-clause-others
list-requires-clause-others c =
    let ready : ℕ → Shape = shape_of_rule (map rule_from c.args.rules.now) in
    subst (All (IsReady ready c.args.tokens.now c.args.forest.now)) (sym c.in-Some.ensures.rest)
    (All-take (IsReady ready c.args.tokens.now c.args.forest.now) _ c.loop-next.listing.waiting.items
    c.loop-next.invariant.ready)

pub loop-next-smaller : goal.loop-next-smaller
loop-next-smaller c =
    let shape : ℕ → Shape = shape_of_rule (map rule_from c.args.rules.now) in
    let f = c.args.forest.now in
    let fewer = c.in_ok-list.ensures.fewer in
    let before : visits_left shape f c.loop-next.listing.waiting.items
    ≡ visits_left shape f (c.pop.new.self.items ++ c.in-Some.next ∷ [])
    = ap (visits_left shape f) c.in-Some.ensures.items in
    omega (arith, fewer, before, visits-push shape c.args.tokens.now f c.pop.new.self.items c.in-Some.next)

pub loop-next-preserved : goal.loop-next-preserved
loop-next-preserved c =
    let shape : ℕ → Shape = shape_of_rule (map rule_from c.args.rules.now) in
    let tokens = c.args.tokens.now in
    let f = c.args.forest.now in
    let next = c.in-Some.next in
    let old = c.loop-next.listing in record {
      parts = c.in_ok-list.ensures.parts
          ∙ (ap (λ ps. old.parts.items ++ ps)
          (sym (ap (listed shape tokens f) c.in-Some.ensures.items
          ∙ listed-push shape tokens f c.pop.new.self.items next))
          ∙ c.loop-next.invariant.parts);
      ready = c.in_ok-list.ensures.ready;
    }

pub returns : goal.returns
returns c before d h =
    let f = c.args.forest.now in
    let tokens = c.args.tokens.now in
    let rules = map rule_from c.args.rules.now in
    let shape : ℕ → Shape = shape_of_rule rules in
    let root = derived_root f c.args.root tokens rules before d c.requires.shaped h in
    let whole : c.in_ok-whole.whole.tokens ≡ (measure_of shape (term_at f c.args.root)).tokens
    = ap (λ m. m.tokens) (c.in_ok-whole.ensures f.children (term_at f c.args.root)
    (term_seen f c.args.root c.look.result root.known c.look.ensures)
    (c.deref.ensures.value ∙ c.in_ok-measures.ensures)) in
    let none : c.loop-next.listing.waiting.items ≡ []
    = nil_from_length c.loop-next.listing.waiting.items
    (omega (arith, c.in_default.ensures.cases.0, c.loop-next.listing.waiting.ok)) in
    sym (append-nil c.loop-next.listing.parts.items)
    ∙ (ap (λ ws. c.loop-next.listing.parts.items ++ listed shape tokens f ws) (sym none)
    ∙ (c.loop-next.invariant.parts
    ∙ ap parts_of (root.placed (length tokens - c.in_ok-whole.whole.tokens) (omega (arith, whole, root.within)))))
