-- Terms of a derivation whose parts are to be listed.
use Rattle.std.specs.Prelude.{◌≡◌, ◌≤◌, ◌+◌, ◌-◌, ℕ, zero, suc, List, [], ◌∷◌, ◌++◌, All, IsSome, drop, length}
use Rattle.std.specs.Prelude.{map, reverse, slice_index_or}
use Rattle.ly_base.specs.Shape.{Shape, nil, node, place}
use Rattle.ly_pack.specs.Values.{rule_from}
use Rattle.ly_places.specs.Parts.{parts_of}
use Rattle.ly_places.specs.Placed.{Placed}
use Rattle.ly_places.specs.Private.Kept.{first_extent, placed_term, IsWhole}
use Rattle.ly_places.specs.Private.Measured.{measure_of}
use Rattle.ly_parse.specs.Deriving.{shape_of_rule}
use Rattle.ly_spans.specs.declared.span.Span.{Span}
use Rattle.ly_places.specs.declared.measure.Measure.{Measure}
use Rattle.ly_places.specs.declared.part.Part.{Part}
use Rattle.ly_places.specs.declared.part.PartKind.{PartKind}
use Rattle.ly_places.specs.declared.part.PartKind.TheVariants as kind
use Rattle.ly_places.specs.declared.flattening.Flattening.{Flattening}
use Rattle.ly_places.specs.declared.flattening.Listing.{Listing}
use Rattle.ly_places.specs.declared.flattening.Waiting.{Waiting}
use Rattle.ly_tree.specs.Forest.{term_of, Grown}
use Rattle.ly_tree.specs.Look.{AreChildren}
use Rattle.ly_tree.specs.Private.Printing.{term_at}
use Rattle.ly_tree.specs.Term as term
use Rattle.ly_tree.specs.Term.{Term, Terms}
use Rattle.ly_tree.specs.declared.forest.TermRef.{TermRef}
use Rattle.ly_tree.specs.declared.forest.TermRef.TheVariants.{Nothing}
use Rattle.ly_tree.specs.declared.look.Look.{Look}
use Rattle.ly_tree.specs.declared.look.Look.TheVariants as look

-- what the rules of a derivation make
abbrev pub shapes_of : Flattening → ℕ → Shape
shapes_of d = shape_of_rule (map rule_from d.rules.now)

-- the children of its forest are there, and measured
pub record IsMeasured (d : Flattening) : Type 0 where
  pub children : AreChildren d.forest.now d.children.now
  pub measures : d.measures.now ≡ map (measure_of (shapes_of d)) d.forest.now.children

-- The terms of a body one after another: of each where its tokens begin, and where those before them end.
abbrev pub body_from : List Span → ℕ → ℕ → List TermRef → List Measure → List Waiting
body_from tokens first last [] ms = []
body_from tokens first last (r ∷ rs) [] = []
body_from tokens first last (r ∷ rs) (m ∷ ms) = record { term = r; first = first; last = last }
    ∷ body_from tokens (first + m.tokens) (first_extent last m.tokens (drop first tokens)).end rs ms

-- the one at a place, counted from 1; that of nothing where there is none
abbrev pub waiting_at : List Waiting → ℕ → Waiting
waiting_at ws i = slice_index_or ws (i - 1) (record { term = Nothing; first = 0; last = 0 })

-- the placed term of one that waits
abbrev pub placed_at : (ℕ → Shape) → List Span → Grown → Waiting → Placed
placed_at shape tokens f w = placed_term shape w.last (drop w.first tokens) (term_at f w.term)

-- the parts of those that wait, the last one's first
abbrev pub listed : (ℕ → Shape) → List Span → Grown → List Waiting → List Part
listed shape tokens f [] = []
listed shape tokens f (w ∷ ws) = listed shape tokens f ws ++ parts_of (placed_at shape tokens f w)

-- one that waits is there, each of its nodes has its body, and its tokens are there
pub record IsReady (shape : ℕ → Shape) (tokens : List Span) (f : Grown) (w : Waiting) : Type 0 where
  pub known : IsSome (term_of f w.term)
  pub whole : IsWhole shape (term_at f w.term)
  pub within : w.first + (measure_of shape (term_at f w.term)).tokens ≤ length tokens

-- how many visits the term at a place takes, counted from 1
abbrev pub visits_at : List ℕ → ℕ → ℕ
visits_at [] i = 0
visits_at (n ∷ ns) zero = 0
visits_at (n ∷ ns) (suc zero) = n
visits_at (n ∷ ns) (suc (suc i)) = visits_at ns (suc i)

-- how many those at these places take
abbrev pub visits_among : List ℕ → List ℕ → ℕ
visits_among ns [] = 0
visits_among ns (i ∷ is) = visits_at ns i + visits_among ns is

-- how many what a rule makes of its body takes
abbrev pub visits_made : Shape → List ℕ → ℕ
visits_made nil ns = 0
visits_made (place i) ns = visits_at ns i
visits_made (node name is) ns = visits_among ns is

-- how many visits a term takes until all of its parts are listed: one for each term that it is made of
abbrev mutual
  pub visits : (ℕ → Shape) → Term → ℕ
  visits shape term.nothing = 1
  visits shape (term.leaf t bytes) = 1
  visits shape (term.built p ts) = 1 + visits_made (shape p) (all_visits shape ts)

  pub all_visits : (ℕ → Shape) → Terms → List ℕ
  all_visits shape term.none = []
  all_visits shape (term.more t ts) = visits shape t ∷ all_visits shape ts

-- how many visits are left where these wait
abbrev pub visits_left : (ℕ → Shape) → Grown → List Waiting → ℕ
visits_left shape f [] = 0
visits_left shape f (w ∷ ws) = visits shape (term_at f w.term) + visits_left shape f ws

-- what the part of a term is that is seen
abbrev pub kind_of : Look → PartKind
kind_of look.Nothing = kind.Nothing
kind_of (look.Leaf t) = kind.Token t
kind_of (look.Node s) = kind.Node s.rule

-- What a rule makes of a body: nothing, with a part as long as the node's; a term that waits; or a part, behind which
-- terms wait, the first one at the end.
abbrev pub IsOpened : Shape → Part → List Waiting → Listing → Listing → Type 0
IsOpened nil p body old new = (new.parts.items ≡ old.parts.items ++ record p { kind = kind.Nothing } ∷ [])
    × (new.waiting.items ≡ old.waiting.items)
IsOpened (place i) p body old new = (new.parts.items ≡ old.parts.items)
    × (new.waiting.items ≡ old.waiting.items ++ waiting_at body i ∷ [])
IsOpened (node name is) p body old new = (new.parts.items ≡ old.parts.items ++ p ∷ [])
    × (new.waiting.items ≡ old.waiting.items ++ reverse (map (waiting_at body) is))

-- A term was taken: its part is listed, and what it consists of waits, so that all parts are still the same.
pub record IsListed (shape : ℕ → Shape) (tokens : List Span) (f : Grown) (next : Waiting) (old new : Listing)
    : Type 0 where
  pub parts : new.parts.items ++ listed shape tokens f new.waiting.items
      ≡ old.parts.items ++ (parts_of (placed_at shape tokens f next) ++ listed shape tokens f old.waiting.items)
  pub ready : All (IsReady shape tokens f) new.waiting.items
  pub fewer : visits_left shape f new.waiting.items + 1
      ≡ visits shape (term_at f next.term) + visits_left shape f old.waiting.items

-- where the last of some tokens ends, or the start of the text
abbrev pub last_end : List Span → ℕ
last_end [] = 0
last_end (e ∷ []) = e.end
last_end (e ∷ f ∷ es) = last_end (f ∷ es)
