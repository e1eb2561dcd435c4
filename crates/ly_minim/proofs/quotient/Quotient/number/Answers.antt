use Rattle.std.proofs.Common.{◌≡◌, ◌∙◌, ◌∷◌, [], ap, arith, length, sym}
use Rattle.std.proofs.lemmas.List.{append-nil, get_or_push, get_or_read, length_push}
use Rattle.ly_subset.specs.Automaton.{entry_at}
use Rattle.ly_minim.specs.Private.Quotient.{pick_of}
use Rattle.ly_minim.specs.Private.Signature.{block_of}
use Rattle.ly_minim.proofs.QuotientLemmas.{numbered_more, picked_few, room_for}
use Rattle.ly_minim.proofs.quotient.Quotient.number.Goals as goal

pub overflow_cast-number : goal.overflow_cast-number
overflow_cast-number c = let few = picked_few c.args.blocks.now.of.items c.args.blocks.now.count
    c.args.self.now.numbers c.args.self.now.picked.items c.requires.numbered.by in
    let fits = c.requires.numbered.fits in let len = c.len-number.ensures in let same = c.args.self.now.picked.ok.0 in
    omega (arith, few)

pub returns-in-Some-clause-met : goal.returns-in-Some-clause-met
returns-in-Some-clause-met c =
    let of = c.args.blocks.now.of.items in
    let numbers = c.args.self.now.numbers in
    let by = c.requires.numbered.by in
    let block : c.index.result.now ≡ block_of of c.args.state
    = get_or_read of c.args.state c.index.result.now c.requires.state c.index.ensures 0 in
    let read : c.get.result ≡ entry_at numbers c.index.result.now = c.get.ensures in
    let met = by.met c.index.result.now c.in-Some.number (sym read ∙ c.in-Some.is) in
    record {
      more = [];
      grown = sym (append-nil c.args.self.now.picked.items);
      block = (met.0, met.1 ∙ block);
      fresh = λ n l past. absurd (omega (arith, l, past));
    }

pub returns-in-Some-clause-fits : goal.returns-in-Some-clause-fits
returns-in-Some-clause-fits c =
    let of = c.args.blocks.now.of.items in
    let numbers = c.args.self.now.numbers in
    let by = c.requires.numbered.by in
    let block : c.index.result.now ≡ block_of of c.args.state
    = get_or_read of c.args.state c.index.result.now c.requires.state c.index.ensures 0 in
    let read : c.get.result ≡ entry_at numbers c.index.result.now = c.get.ensures in
    let met = by.met c.index.result.now c.in-Some.number (sym read ∙ c.in-Some.is) in
    let few = picked_few of c.args.blocks.now.count numbers c.args.self.now.picked.items by in
    let fits = c.requires.numbered.fits in omega (arith, met.0, few)

pub returns-clause-numbered : goal.returns-clause-numbered
returns-clause-numbered c =
    let of = c.args.blocks.now.of.items in
    let numbers = c.args.self.now.numbers in
    let by = c.requires.numbered.by in
    let block : c.index.result.now ≡ block_of of c.args.state
    = get_or_read of c.args.state c.index.result.now c.requires.state c.index.ensures 0 in
    let read : c.get.result ≡ entry_at numbers c.index.result.now = c.get.ensures in
    let len : c.len-number.result ≡ length c.args.self.now.picked.items
    = c.len-number.ensures ∙ c.args.self.now.picked.ok.0 in
    record {
      by = rw (c.in_ok-push.ensures.items, c.set.ensures, block, len) (numbered_more of c.args.blocks.now.count numbers
          c.args.self.now.picked.items c.args.state by c.requires.state
          (ap (entry_at numbers) (sym block) ∙ sym read ∙ c.in_default.is));
      fits = c.requires.numbered.fits;
    }

pub returns-clause-met : goal.returns-clause-met
returns-clause-met c =
    let of = c.args.blocks.now.of.items in
    let picked = c.args.self.now.picked.items in
    let len : c.len-number.result ≡ length picked = c.len-number.ensures ∙ c.args.self.now.picked.ok.0 in
    let grown = c.in_ok-push.ensures.items in
    record {
      more = c.args.state ∷ [];
      grown = grown;
      block = (
        omega (arith, len, ap length grown, length_push picked c.args.state),
        ap (λ ps. block_of of (pick_of ps c.len-number.result)) grown
            ∙ ap (block_of of) (get_or_push picked c.args.state 0 c.len-number.result (sym len)),
      );
      fresh = λ n l past. let last : n ≡ length picked = omega (
        arith,
        l,
        past,
        ap length grown,
        length_push picked c.args.state,
      ) in (last, len ∙ sym last);
    }

pub returns-clause-fits : goal.returns-clause-fits
returns-clause-fits c =
    let of = c.args.blocks.now.of.items in
    let numbers = c.args.self.now.numbers in
    let by = c.requires.numbered.by in
    let block : c.index.result.now ≡ block_of of c.args.state
    = get_or_read of c.args.state c.index.result.now c.requires.state c.index.ensures 0 in
    let read : c.get.result ≡ entry_at numbers c.index.result.now = c.get.ensures in
    let room = room_for of c.args.blocks.now.count numbers c.args.self.now.picked.items c.args.state by c.requires.state
    (ap (entry_at numbers) (sym block) ∙ sym read ∙ c.in_default.is) in
    let fits = c.requires.numbered.fits in let len = c.len-number.ensures in let same = c.args.self.now.picked.ok.0 in
    omega (arith, room)

pub set-requires-clause-number : goal.set-requires-clause-number
set-requires-clause-number c =
    let of = c.args.blocks.now.of.items in
    let numbers = c.args.self.now.numbers in
    let by = c.requires.numbered.by in
    let block : c.index.result.now ≡ block_of of c.args.state
    = get_or_read of c.args.state c.index.result.now c.requires.state c.index.ensures 0 in
    let read : c.get.result ≡ entry_at numbers c.index.result.now = c.get.ensures in
    let room = room_for of c.args.blocks.now.count numbers c.args.self.now.picked.items c.args.state by c.requires.state
    (ap (entry_at numbers) (sym block) ∙ sym read ∙ c.in_default.is) in
    let fits = c.requires.numbered.fits in let len = c.len-number.ensures in let same = c.args.self.now.picked.ok.0 in
    omega (arith, room)
