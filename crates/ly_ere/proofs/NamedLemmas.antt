-- A name up to its mark and `]` is determined.
use Rattle.std.proofs.Common.{◌≡◌, ◌≢◌, ℕ, ◌+◌, ◌<◌, ◌≤◌, List, [], ◌∷◌, ◌++◌, length, drop, get_or, false, true, refl}
use Rattle.std.proofs.Common.{sym, ◌∙◌, arith}
use Rattle.std.specs.Prelude.{nat_eq}
use Rattle.std.proofs.lemmas.Bool.{eqb-false, or_parts}
use Rattle.std.proofs.lemmas.List.{drop_all, drop_more}
use Rattle.ly_ere.specs.Private.Brackets.{IsNamed}
use Rattle.ly_ere.specs.Private.Front.{BeginsNo}
use Rattle.ly_ere.specs.Elements.{stands_at}
use Rattle.ly_ere.specs.Elements.{is_among}
use Rattle.ly_ere.proofs.FrontLemmas.{stands, stands_drop}
use Rattle.ly_base.proofs.EscapeLemmas.{byte_at}

absent : (c : ℕ) (cs : List ℕ) (b : ℕ) → is_among (c ∷ cs) b ≡ false → (b ≢ c) × (is_among cs b ≡ false)
absent c cs b e = let p = or_parts (nat_eq b c) (is_among cs b) e in (eqb-false b c p.0, p.1)

same_split : (m : ℕ) (a b r s : List ℕ) → is_among a m ≡ false → is_among b m ≡ false → a ++ m ∷ r ≡ b ++ m ∷ s
    → (a ≡ b) × (r ≡ s)
same_split m [] [] r s p q e = (refl, cc)
same_split m [] (d ∷ b) r s p q e = absurd ((absent d b m q).0 (cc))
same_split m (c ∷ a) [] r s p q e = absurd ((absent c a m p).0 (cc))
same_split m (c ∷ a) (d ∷ b) r s p q e =
    let k = same_split m a b r s (absent c a m p).1 (absent d b m q).1 (cc) in
    (cc, k.1)

-- a text has one name at its front
pub named_one : (m : ℕ) (t name rest other left : List ℕ) → IsNamed m t name rest → IsNamed m t other left
    → (name ≡ other) × (rest ≡ left)
named_one m t name rest other left n o = let k = same_split m name other (93 ∷ rest) (93 ∷ left) n.no_mark o.no_mark
    (sym n.is ∙ o.is) in (k.0, cc)

module _ (m b : ℕ) (u rest : List ℕ) where
  -- the mark ends the name
  named_ends : (name : List ℕ) → IsNamed m (b ∷ u) name rest → b ≡ m → (length name ≡ 0) × (u ≡ 93 ∷ rest)
  named_ends [] n e = (refl, cc)
  named_ends (c ∷ cs) n e = absurd ((absent c cs m n.no_mark).0 (cc))

  named_line : (name : List ℕ) → IsNamed m (b ∷ u) name rest → b ≢ 10
  named_line [] n e = (absent m [] 10 n.no_line).0 (cc)
  named_line (c ∷ cs) n e = (absent c cs 10 (absent m (c ∷ cs) 10 n.no_line).1).0 (cc)

  -- another byte is in the name
  named_more : (name : List ℕ) → IsNamed m (b ∷ u) name rest → b ≢ m → (more : List ℕ) × IsNamed m u more rest
      × (length name ≡ length more + 1)
  named_more [] n e = absurd (e (cc))
  named_more (c ∷ cs) n e =
      let line = or_parts (nat_eq 10 m) (is_among (c ∷ cs) 10) n.no_line in
      let no_line : is_among (m ∷ cs) 10 ≡ false = rw line.0 (absent c cs 10 line.1).1 in
      (cs, record { is = cc; no_mark = (absent c cs m n.no_mark).1; no_line = no_line }, omega arith)

named_some : (m : ℕ) (t name rest : List ℕ) → IsNamed m t name rest → t ≢ []
named_some m t [] rest n e = let h : m ∷ 93 ∷ rest ≡ [] = sym n.is ∙ e in cc
named_some m t (c ∷ cs) rest n e = let h : c ∷ (cs ++ m ∷ 93 ∷ rest) ≡ [] = sym n.is ∙ e in cc

-- the mark and `]` behind it
pub mark_there : (t : List ℕ) (mark at : ℕ) → at < length t → get_or t at 0 ≡ mark → stands_at t (at + 1) 93 ≡ true
    → drop at t ≡ mark ∷ 93 ∷ drop (at + 2) t
mark_there t mark at l e f =
    let k = stands t (at + 1) 93 f in
    let two : at + 1 + 1 ≡ at + 2 = omega arith in
    rw (byte_at t at mark l e, byte_at t (at + 1) 93 k.0 k.1, two) refl

-- A name from one byte on goes on from another.
pub record NameGoesOn (mark : ℕ) (t : List ℕ) (from at : ℕ) : Type 0 where
  pub from_here : (name rest : List ℕ) → IsNamed mark (drop from t) name rest → (more : List ℕ)
      × IsNamed mark (drop at t) more rest × (from + length name ≡ at + length more)

module _ {mark : ℕ} {t : List ℕ} {from at : ℕ} (g : NameGoesOn mark t from at) where
  pub name_nowhere : length t ≤ at → BeginsNo (IsNamed mark) (drop from t)
  name_nowhere l name rest n = let k = g.from_here name rest n
      in named_some mark (drop at t) k.0 rest k.1 (drop_all at t l)

  module _ (within : at < length t) where
    named_front : (more rest : List ℕ) → IsNamed mark (drop at t) more rest
        → IsNamed mark (get_or t at 0 ∷ drop (at + 1) t) more rest
    named_front more rest n = rw (drop_more t at 0 within) at n

    pub name_line : get_or t at 0 ≡ 10 → BeginsNo (IsNamed mark) (drop from t)
    name_line e name rest n = let k = g.from_here name rest n
        in named_line mark (get_or t at 0) (drop (at + 1) t) rest k.0 (named_front k.0 rest k.1) e

    pub name_ends : get_or t at 0 ≡ mark → (name rest : List ℕ) → IsNamed mark (drop from t) name rest
        → at ≡ from + length name
    name_ends e name rest n =
        let k = g.from_here name rest n in
        let z = named_ends mark (get_or t at 0) (drop (at + 1) t) rest k.0 (named_front k.0 rest k.1) e in
        omega (arith, k.2, z.0)

    pub name_more : get_or t at 0 ≢ mark → NameGoesOn mark t from (at + 1)
    name_more e = record {
      from_here = λ name rest n.
          let k = g.from_here name rest n in
          let z = named_more mark (get_or t at 0) (drop (at + 1) t) rest k.0 (named_front k.0 rest k.1) e in
          (z.0, z.1, omega (arith, k.2, z.2));
    }

    pub name_more_mark : get_or t at 0 ≡ mark → stands_at t (at + 1) 93 ≡ false → NameGoesOn mark t from (at + 1)
    name_more_mark e f = record {
      from_here = λ name rest n.
          let k = g.from_here name rest n in
          let z = named_ends mark (get_or t at 0) (drop (at + 1) t) rest k.0 (named_front k.0 rest k.1) e in
          let there : stands_at t (at + 1) 93 ≡ true = stands_drop t (at + 1) 93 ∙ rw z.1 refl in
          absurd (cc);
    }
