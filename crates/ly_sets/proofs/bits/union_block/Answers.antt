use Rattle.std.proofs.Common.{ap, ◌∙◌, ◌+◌, get_or, sym}
use Rattle.ly_sets.proofs.LaneLemmas.{put_united-at, put_united-other, put_united-same, united-same}
use Rattle.ly_sets.proofs.bits.union_block.Goals as goal

pub returns : goal.returns
returns c =
    let put = c.union_lanes.ensures.united in record {
      united = λ k lt. ap (λ ws. get_or ws (c.args.to + k) 0) put
          ∙ put_united-at c.args.words.now c.args.to c.args.from c.requires.to_inside c.requires.from_inside k lt;
      others = λ k at. ap (λ ws. get_or ws k 0) put
          ∙ put_united-other c.args.words.now c.args.to c.args.from c.requires.to_inside c.requires.from_inside k at;
      stayed = λ h k. ap (λ ws. get_or ws k 0)
          (put ∙ put_united-same c.args.words.now c.args.to c.args.from c.requires.to_inside c.requires.from_inside
          (c.union_lanes.ensures.stayed h));
      grew = λ h same. c.union_lanes.ensures.grew h
          (united-same c.args.words.now c.args.to c.args.from c.requires.to_inside c.requires.from_inside
          (λ k lt. sym (ap (λ ws. get_or ws k 0) put) ∙ same k lt));
    }
