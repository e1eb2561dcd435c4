-- What comes out of the relations is in the merged lookaheads (DeRemer and Pennello 1982, 4).
use Rattle.std.proofs.Common.{inl, inr, ℕ, List, [], ◌∷◌, ◌++◌, refl}
use Rattle.ly_base.specs.Lexed.{Token}
use Rattle.ly_base.specs.Trees.{leaf, more, yields_of}
use Rattle.ly_join.specs.Grammar.{Grammar, IsAugmented, Symbol, nonterminal, terminal}
use Rattle.ly_grammar.specs.Derivations.{First, IsReduced}
use Rattle.ly_grammar.specs.Items.{InLookahead, Valid, closed}
use Rattle.ly_grammar.proofs.ItemLemmas.{First-skip, read_on, trees_behind}
use Rattle.ly_lr0.specs.Automaton.{Gotos, HasCores, Reaches}
use Rattle.ly_relate.specs.Relations.{Follow, IsTransition, LookaheadBy, Read, along_includes, along_reads, by_read}
use Rattle.ly_relate.specs.Relations.{directly}
use Rattle.ly_relate.proofs.ReachLemmas.{Reaches-append, back, nullable_tree}

-- An item waits for A at a string, and t can follow A there.
record Waiting (G : Grammar) (u : List Symbol) (A t : ℕ) : Type 0 where
  number : ℕ
  before : List Symbol
  rest : List Symbol
  behind : ℕ
  valid : Valid G u number before (nonterminal A ∷ rest) behind
  first : First G rest behind t

module _ (G : Grammar) (goto : Gotos) (augmented : IsAugmented G) (reduced : IsReduced G)
    (automaton : HasCores G goto) where
  -- Read: what a transition reads can follow its nonterminal at each string that leads to its state
  reads_back : {q A t : ℕ} → Read G goto q A t → (u : List Symbol) → Reaches goto 0 u q → Waiting G u A t
  reads_back {q} {A} {t} (directly (r, e, l)) u reaches =
      let core = (automaton.same l.0 (nonterminal A ∷ u) r l.1 (q, reaches, e) l.2.0 l.2.1
      (terminal t ∷ l.2.2)).0 l.2.3 in
      let ts = trees_behind augmented reduced core.1 in
      let token : Token ℕ = record { terminal = t; at = 0; bytes = [] } in
      let w = back core.1 in
      record {
        number = w.number;
        before = w.before;
        rest = w.rest;
        behind = w.behind;
        valid = w.valid;
        first = w.takes_in t (inl (more (leaf token) ts.0, (refl, ts.1), token, yields_of ts.0, refl, refl));
      }
  reads_back {q} {A} {t} (along_reads {r = r} {C = C} x rd) u reaches =
      let i = reads_back rd (nonterminal A ∷ u) (q, reaches, x.0) in
      let n = nullable_tree G (nonterminal C) x.2 in
      let w = back i.valid in
      record {
        number = w.number;
        before = w.before;
        rest = w.rest;
        behind = w.behind;
        valid = w.valid;
        first = w.takes_in t (First-skip n.0 n.1 n.2 i.first);
      }

  -- what reads something is a transition
  read_from : {q A t : ℕ} → Read G goto q A t → IsTransition G goto q A
  read_from (directly d) = (d.0, d.1)
  read_from (along_reads {r = r} x rd) = (r, x.0)

  -- Follow: what follows a transition can follow its nonterminal at some string that leads to its state
  follow_back : {q A t : ℕ} → Follow G goto q A t → (u : List Symbol) × Reaches goto 0 u q × Waiting G u A t
  follow_back {q} {A} {t} (by_read rd) =
      let s = read_from rd in
      let u = automaton.is_reached q (nonterminal A) s.0 s.1 in
      (u.0, u.1, reads_back rd u.0 u.1)
  follow_back {q} {A} {t} (along_includes {q = r} {B = B} i f) =
      let h = follow_back f in
      let v = closed h.2.valid i.is_rule i.is_left i.is_body h.2.first in (
        i.before ++ h.0,
        Reaches-append goto 0 i.before h.0 r q h.1 i.leads,
        record {
          number = i.number;
          before = i.before;
          rest = i.after;
          behind = t;
          valid = read_on i.before (nonterminal A ∷ i.after) v;
          first = inr (i.nullable, refl);
        },
      )

  -- LA: a lookahead by the relations is in the merged set
  pub lookahead_from : (g : List Symbol) (s p t : ℕ) → Reaches goto 0 g s → LookaheadBy G goto s p t
      → InLookahead G g p t
  lookahead_from g s p t reaches (q, A, b, follow) =
      let h = follow_back follow in
      let v = closed h.2.valid b.is_rule b.is_left b.is_body h.2.first in
      let there = Reaches-append goto 0 b.before h.0 q s h.1 b.leads in
      record {
        at = b.before ++ h.0;
        merges = record {
          left = automaton.only g s reaches;
          right = automaton.only (b.before ++ h.0) s there;
          cores = automaton.same g (b.before ++ h.0) s reaches there;
        };
        before = b.before;
        valid = read_on b.before [] v;
      }
