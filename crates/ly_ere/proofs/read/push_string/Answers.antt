use Rattle.std.proofs.Common.{◌≡◌, ◌∙◌, length, arith, length-append, length-drop, ap}
use Rattle.std.proofs.lemmas.Result.{MatchResult-from_err}
use Rattle.ly_base.proofs.EscapeLemmas.{whole_slice}
use Rattle.ly_ere.specs.Arena.{part_of}
use Rattle.ly_ere.specs.Expression.{Expression, concat}
use Rattle.ly_ere.proofs.LevelLemmas.{grows_push, grows_trans, part_last, part_same}
use Rattle.ly_ere.proofs.StringLemmas.{empty_string, end_string, next_string, none_quoted, start_string}
use Rattle.ly_ere.proofs.read.push_string.Goals as goal

concat_by : {a b c d : Expression} → a ≡ b → c ≡ d → concat a c ≡ concat b d
concat_by p q = cc

pub returns-in_default-clause-string : goal.returns-in_default-clause-string
returns-in_default-clause-string c
    = rw (part_last c.args.arena.now c.push.new.self _ c.in_ok-push.field-0 c.in_ok-push.ensures.ok
    c.in_ok-push.ensures.number) (empty_string c.args.behind.now (rw c.in_default.is at c.in_ok-byte.ensures.end))

pub loop-byte-init : goal.loop-byte-init
loop-byte-init c = record {
  within = (rw c.in-Some.is at c.in_ok-byte.ensures.front).1;
  there = c.in_ok-string.ensures.within;
  grown = c.in_ok-string.ensures.grown;
  string = start_string c.args.behind.now c.in-Some.byte c.in-Some.at _ c.in_ok-string.ensures.byte
      (rw c.in-Some.is at c.in_ok-byte.ensures.byte);
}

pub returns-in_err-byte-2-clause-refused : goal.returns-in_err-byte-2-clause-refused
returns-in_err-byte-2-clause-refused c = let now = c.loop-byte
    in MatchResult-from_err c.from_residual-in_err-byte-2.result _ _ c.from_residual-in_err-byte-2.ensures.0
    (λ _ _. none_quoted now.invariant.string.read (rw whole_slice at c.in_err-byte-2.ensures.refused))

pub loop-byte-preserved : goal.loop-byte-preserved
loop-byte-preserved c =
    let now = c.loop-byte in
    let pushed = grows_push c.push_byte-in-Some-2.new.arena c.push-in-Some-2.new.self _ c.in_ok-string-2.ensures.ok in
    let byte = c.in_ok-next.ensures in
    let before : part_of c.push_byte-in-Some-2.new.arena now.string ≡ part_of now.arena now.string
    = part_same now.arena c.push_byte-in-Some-2.new.arena now.string byte.grown now.invariant.there in
    let last = part_last c.push_byte-in-Some-2.new.arena c.push-in-Some-2.new.self _ c.in_ok-string-2.string
    c.in_ok-string-2.ensures.ok c.in_ok-string-2.ensures.number in
    let taken = rw c.in-Some-2.is at c.in_ok-byte-2.ensures.front in
    let more = rw (c.in-Some-2.is, whole_slice) at c.in_ok-byte-2.ensures.byte in
    record {
      within = omega (
        arith,
        taken.1,
        ap length (whole_slice now.at c.args.behind.now),
        length-drop now.at c.args.behind.now,
        now.invariant.within,
      );
      there = omega (
        arith,
        ap length c.in_ok-string-2.ensures.ok,
        length-append {A = Expression},
        c.in_ok-string-2.ensures.number,
      );
      grown = grows_trans c.args.arena.now now.arena c.push-in-Some-2.new.self now.invariant.grown
          (grows_trans now.arena c.push_byte-in-Some-2.new.arena c.push-in-Some-2.new.self byte.grown pushed);
      string = next_string now.invariant.string c.in-Some-2.byte c.in-Some-2.length _
          (last ∙ concat_by before byte.byte) more;
    }

pub returns-clause-string : goal.returns-clause-string
returns-clause-string c = let now = c.loop-byte
    in end_string now.invariant.string (rw (c.in_default-2.is, whole_slice) at c.in_ok-byte-2.ensures.end)
