-- What is left to print of a term, and the room that this takes.
use Rattle.std.specs.Prelude.{◌≡◌, ◌≤◌, ◌+◌, ℕ, List, [], ◌∷◌, ◌++◌, All, IfSome, IsSome, Option, None, Some, Result}
use Rattle.std.specs.Prelude.{Ok, Err, codes, length, unwrap_or}
use Rattle.std.specs.Borrow.{Bor}
use Rattle.ly_print.specs.TextWriter.{IsAppended, Outgoing}
use Rattle.ly_print.specs.declared.whole.WriteFault.{WriteFault}
use Rattle.ly_tree.specs.Costs.{cost, costs}
use Rattle.ly_tree.specs.Forest.{term_of, terms_of, Grown, StandsFor}
use Rattle.ly_tree.specs.Private.Grown.{AllKnown}
use Rattle.ly_tree.specs.Term.{Term, nothing, leaf, built}
use Rattle.ly_tree.specs.Written.{written, Notation}
use Rattle.ly_tree.specs.declared.forest.TermRef.{TermRef}

-- the term of a reference; nothing where there is none
abbrev pub term_at : Grown → TermRef → Term
term_at f n = unwrap_or (term_of f n) nothing

-- a term as it is printed
abbrev pub term_text : Notation → Grown → TermRef → List ℕ
term_text v f n = written v (term_at f n)

-- that of the term that is next, if there is one
abbrev pub next_text : Notation → Grown → Option TermRef → List ℕ
next_text v f None = []
next_text v f (Some n) = term_text v f n

-- the end of a node, from behind one of its children: a comma and a term for each child that is left
abbrev pub tail_text : Notation → Grown → List TermRef → List ℕ
tail_text v f [] = v.closes
tail_text v f (n ∷ ns) = codes "," ++ term_text v f n ++ tail_text v f ns

-- the ends of nodes, the last one's first
abbrev pub waiting_text : Notation → Grown → List (Bor (List TermRef)) → List ℕ
waiting_text v f [] = []
waiting_text v f (ns ∷ rest) = waiting_text v f rest ++ tail_text v f ns.now

-- The nodes that are begun and not ended, by the children that are left of each, the outermost first. Below them all is
-- what stands beside the whole term, which is nothing.
abbrev pub begun : List (Bor (List TermRef)) → Bor (List TermRef) → List (Bor (List TermRef))
begun [] others = []
begun (beside ∷ outer) others = outer ++ others ∷ []

-- what is left behind the term that is next
abbrev pub left_text : Notation → Grown → List (Bor (List TermRef)) → Bor (List TermRef) → List ℕ
left_text v f waiting others = waiting_text v f (begun waiting others)

-- each child that is left stands for a term
abbrev pub AllWaitingKnown : Grown → List (Bor (List TermRef)) → Type 0
AllWaitingKnown f waiting = All (λ ns. AllKnown f ns.now) waiting

-- the term that is next, if there is one, is there
abbrev pub IsNextKnown : Grown → Option TermRef → Type 0
IsNextKnown f next = IfSome next (λ n. IsSome (term_of f n))

-- how many terms are left of children
abbrev pub left_of : Grown → List TermRef → ℕ
left_of f ns = costs 1 0 (terms_of f ns)

abbrev pub all_left_of : Grown → List (Bor (List TermRef)) → ℕ
all_left_of f [] = 0
all_left_of f (ns ∷ rest) = left_of f ns.now + all_left_of f rest

-- how many terms the one that is next has
abbrev pub next_terms : Grown → Option TermRef → ℕ
next_terms f None = 0
next_terms f (Some n) = cost 1 0 (term_at f n)

-- how many terms are left, the one that is next among them
abbrev pub terms_left : Grown → Option TermRef → List (Bor (List TermRef)) → Bor (List TermRef) → ℕ
terms_left f next waiting others = next_terms f next + all_left_of f waiting + left_of f others.now

-- nothing stands beside the whole term
abbrev pub IsAlone : List (Bor (List TermRef)) → Bor (List TermRef) → Type 0
IsAlone [] others = others.now ≡ []
IsAlone (beside ∷ outer) others = beside.now ≡ []

-- Where a printer stands: each child that is left is there, nothing stands beside the whole term, and each term that is
-- left may still open a node.
pub record IsOpen (f : Grown) (waiting : List (Bor (List TermRef))) (others : Bor (List TermRef))
    (next : Option TermRef) (room : ℕ) : Type 0 where
  pub waiting_known : AllWaitingKnown f waiting
  pub others_known : AllKnown f others.now
  pub next_known : IsNextKnown f next
  pub alone : IsAlone waiting others
  pub fits : length waiting + terms_left f next waiting others ≤ room

-- what is printed of a term before its children: of one that is no node, all of it
abbrev pub opening : Notation → Term → List ℕ
opening v nothing = v.no_term
opening v (leaf t bytes) = v.leaf_text t bytes
opening v (built p ts) = v.opens p

-- the term is no node, or it is one with these children
abbrev pub HasChildren : Grown → TermRef → Option (Bor (List TermRef)) → Type 0
HasChildren f n None = (v : Notation) → written v (term_at f n) ≡ opening v (term_at f n)
HasChildren f n (Some ns) = ((p : ℕ) × StandsFor f n (built p (terms_of f ns.now))) × AllKnown f ns.now

-- the bytes come to the text, and something is answered; or the writer failed on them
abbrev pub IsPut : {A : Type 0} → Outgoing → Outgoing → Option (List ℕ) → Option (List ℕ) → List ℕ
    → Result A WriteFault → Type 0
IsPut old new before after bytes (Ok x) = IsAppended old new before after bytes (Ok tt)
IsPut old new before after bytes (Err fault) = IsAppended old new before after bytes (Err fault)

-- Of a text the first bytes are printed, so that the rest is left; or the writer failed on it.
abbrev pub IsPrinted : Outgoing → Outgoing → Option (List ℕ) → Option (List ℕ) → List ℕ → (Option TermRef → List ℕ)
    → Result (Option TermRef) WriteFault → Type 0
IsPrinted old new before after text left (Ok next) = (bytes : List ℕ) × (bytes ++ left next ≡ text)
    × IsAppended old new before after bytes (Ok tt)
IsPrinted old new before after text left (Err fault) = IsAppended old new before after text (Err fault)
