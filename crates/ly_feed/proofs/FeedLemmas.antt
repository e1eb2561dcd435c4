-- What a feed makes of a piece.
use Rattle.std.proofs.Common.{◌≡◌, ◌∙◌, ◌<◌, ◌≤◌, ◌+◌, ◌-◌, ℕ, List, Option, Ok, Err, Result, ap}
use Rattle.std.proofs.Common.{arith, drop, length, length-append, length-drop, refl, subst, sym}
use Rattle.std.specs.Global.{Global}
use Rattle.std.specs.Prelude.{◌^◌, Bool, IsErrAnd, false, true}
use Rattle.std.specs.declared.vec.Vec.{Vec}
use Rattle.std.proofs.lemmas.List.{drop-drop}
use Rattle.ly_base.specs.Lexed.{Place, place_after}
use Rattle.ly_base.specs.declared.lexeme.Lexeme.{Lexeme}
use Rattle.ly_feed.proofs.PieceLemmas.{same_end, same_rest, settled_rest}
use Rattle.ly_feed.specs.Held.{Held, IsOnward, IsOver, IsPiece, TakesPiece, seen}
use Rattle.ly_feed.specs.Onward.{Onward, and_passes, and_reads, none_yet}
use Rattle.ly_feed.specs.Private.Feeding.{held_from}
use Rattle.ly_feed.specs.SyntaxError.{verdict_of}
use Rattle.ly_feed.specs.Closed.{progress_of}
use Rattle.ly_feed.specs.Private.Running.{IsRunOn}
use Rattle.ly_feed.specs.ScanPart.{ScanPart, condition_in, scan_part_of, scanner_in}
use Rattle.ly_feed.specs.TableAnswer.{Progress}
use Rattle.ly_feed.specs.Verdict.{IsOutcome, faulty, written_in}
use Rattle.ly_feed.specs.Vocabularies.{vocabulary_of}
use Rattle.ly_feed.specs.declared.feed_fault.FeedFault.{FeedFault}
use Rattle.ly_feed.specs.declared.syntax_error.SyntaxError.{SyntaxError}
use Rattle.ly_feed.specs.declared.syntax_error.SyntaxError.TheVariants.{NoRule, Refused}
use Rattle.ly_feed.specs.declared.need.Need.{Need}
use Rattle.ly_feed.specs.declared.need.Need.TheVariants.{Settled}
use Rattle.ly_feed.specs.declared.outcome.Outcome.{Outcome}
use Rattle.ly_feed.specs.declared.outcome.Outcome.TheVariants as out
use Rattle.ly_feed.specs.declared.running.Halt.{Halt}
use Rattle.ly_feed.specs.declared.running.Halt.TheVariants.{Stopped}
use Rattle.ly_feed.specs.declared.text_fault.TextFault.{TextFault}
use Rattle.ly_feed.specs.declared.text_fault.TextFault.TheVariants as text
use Rattle.ly_feed.specs.FeedFaultNames.{feed_fault_of}
use Rattle.ly_pack.specs.Machine.{Machine}
use Rattle.ly_parse.proofs.FedOnceLemmas.{fed_in_one_way}
use Rattle.ly_parse.specs.Parse.{Parse}
use Rattle.ly_print.specs.declared.answer_form.AnswerForm.{AnswerForm}
use Rattle.ly_scan.specs.Pieces.{IsUndecided, behind}
use Rattle.ly_tables.specs.TableSet.{TableSet, machine_of}

-- a feed that isn't over takes the piece
pub is_piece : (f g : Held) (piece : List ℕ) (answer : Result Need FeedFault) → f.over ≡ false
    → TakesPiece f piece g answer → IsPiece f piece g answer
is_piece f g piece answer goes taken = record {
  after_end = λ over. absurd (let both : true ≡ false = sym over ∙ goes in cc);
  before_end = λ goes. taken;
}

-- A place stands further on in the same text.
pub record IsFurther (q r : Place) : Type 0 where
  pub passed : ℕ
  pub within : passed ≤ length q.rest
  pub at : r.at ≡ q.at + passed
  pub rest : r.rest ≡ drop passed q.rest

-- behind a lexeme it does
further_on : (next : ℕ → Option ℕ) (q r : Place) (t : Lexeme) → IsFurther q r → t.taken ≤ length r.rest
    → IsFurther q (place_after next r t)
further_on next q r t h within = record {
  passed = h.passed + t.taken;
  within = omega (arith, h.within, within, ap length h.rest, length-drop h.passed q.rest);
  at = omega (arith, h.at);
  rest = ap (drop t.taken) h.rest ∙ drop-drop t.taken h.passed q.rest;
}

-- decided matches lead further on
pub further : {ended : Bool} {p : ScanPart} {m : Machine} {w u : Progress} → Onward ended p m w u
    → IsFurther w.place u.place
further none_yet = record { passed = 0; within = omega arith; at = omega arith; rest = refl }
further {p = p} {w = w} (and_passes {u = r} t on fast none) =
    further_on (condition_in p) w.place r.place t (further on) fast.within
further {p = p} {w = w} (and_reads {u = r} t token on fast here fed) =
    further_on (condition_in p) w.place r.place t (further on) fast.within

-- what is held there, once the bytes before it are given up
pub given_up : (q r : Place) (at : ℕ) (line : Bool) (condition : ℕ) → IsFurther q r → at ≡ r.at → line ≡ r.line
    → condition ≡ r.condition
    → (let x : Place = record { line = line; condition = condition; at = at; rest = drop (at - q.at) q.rest } in x) ≡ r
given_up q r at line condition h same_at same_line same_condition =
    let count : at - q.at ≡ h.passed = omega (arith, same_at, h.at) in
    let rest : drop (at - q.at) q.rest ≡ r.rest = ap (λ n. drop n q.rest) count ∙ sym h.rest in
    λ i. record { line = same_line i; condition = same_condition i; at = same_at i; rest = rest i }

-- a run of a parser over a set's tables is one over these
pub run_of_set : (p : ScanPart) (w : Progress) (r : Parse) {m k : Machine} → k ≡ m
    → (result : Result Halt TextFault) → IsRunOn false p k w r result → IsRunOn false p m w r result
run_of_set p w r same result run = subst (λ x. IsRunOn false p x w r result) same run

-- of a flaw no tree is told
no_tree : (syntax_error : SyntaxError) (o : Outcome) → IsOutcome (verdict_of syntax_error) o → o ≡ out.Tree → ⊥
no_tree (Refused number token expected) (out.Syntax n b count ts) told is = cc
no_tree (Refused number token expected) out.Tree told is = told
no_tree (Refused number token expected) (out.NoRule b) told is = told
no_tree (NoRule byte) o told is = let both : out.NoRule byte ≡ out.Tree = sym told ∙ is in cc

module _ (set : TableSet) (form : AnswerForm) (q : Place) (s : Parse) (over : Bool) (piece : List ℕ) where
  abbrev p : ScanPart
  p = scan_part_of set

  abbrev m : Machine
  m = machine_of set

  abbrev f : Held
  f = held_from set form q s over

  -- decided matches lead to where the next one isn't
  pub goes_onward : (r : Place) (t : Parse) → Onward false p m (progress_of (behind q piece) s) (progress_of r t)
      → IsUndecided (scanner_in p) r → seen f + length piece < 2 ^ 64 → IsOnward f piece (held_from set form r t false)
  goes_onward r t on undecided few = record {
    onward = on;
    undecided = undecided;
    same_rest = same_rest p m (progress_of q s) piece fed_in_one_way on;
    set = refl;
    form = refl;
    goes_on = refl;
    counted = omega (arith, same_end p m on, length-append q.rest piece);
    countable = few;
  }

  -- something is wrong
  pub is_settled : (g : Held) (syntax_error : SyntaxError) (o : Outcome) (lines : Vec ℕ Global)
      (t : Parse) (h : Halt)
      → IsRunOn false p m (progress_of (behind q piece) s) t (Ok h) → h ≡ Stopped syntax_error
      → IsOutcome (verdict_of syntax_error) o
      → lines.items ≡ written_in form (vocabulary_of set) (verdict_of syntax_error) → IsOver f g
      → seen f + length piece < 2 ^ 64 → TakesPiece f piece g (Ok (Settled o lines))
  is_settled g syntax_error o lines t h run at told written over few = (
    over,
    few,
    (
      verdict_of syntax_error,
      settled_rest p m (progress_of q s) piece (verdict_of syntax_error)
          (subst (λ x. IsRunOn false p m (progress_of (behind q piece) s) t (Ok x)) at run),
      told,
      no_tree syntax_error o told,
      written,
    ),
  )

  -- a fault that is handed on
  pub is_faulty : (g : Held) (e : TextFault) (result : Result Need FeedFault) (t : Parse)
      → IsRunOn false p m (progress_of (behind q piece) s) t (Err e) → IsErrAnd result (λ x. x ≡ feed_fault_of e)
      → IsOver f g → seen f + length piece < 2 ^ 64 → TakesPiece f piece g result
  is_faulty g e (Ok x) t run is over few = absurd is
  is_faulty g text.FaultyTables (Err x) t run is over few = subst (λ y. TakesPiece f piece g (Err y)) (sym is) (
    over,
    few,
    settled_rest p m (progress_of q s) piece faulty run,
  )
  is_faulty g text.OutOfMemory (Err x) t run is over few = subst (λ y. TakesPiece f piece g (Err y)) (sym is) over
  is_faulty g text.TooLong (Err x) t run is over few = absurd run
  is_faulty g text.Read (Err x) t run is over few = absurd run
  is_faulty g (text.Write written) (Err x) t run is over few = absurd run
