use Rattle.std.proofs.Common.{rules, arith, ◌∙◌, ap, drop, length}
use Rattle.std.proofs.lemmas.Grind.{common_steps}
use Rattle.ly_base.proofs.EscapeLemmas.{whole_slice}
use Rattle.ly_files.proofs.FolderLemmas.{nothing_left, rest_read}
use Rattle.ly_files.proofs.mem_folder.MemFileSource.pull.Goals as goal

pub returns-clause-bytes : goal.returns-clause-bytes
returns-clause-bytes c = let is = c.in-Some.ensures.lookup.0.2
    ∙ whole_slice c.args.self.now.read c.deref.result.now ∙ ap (drop c.args.self.now.read) c.deref.ensures.value in (
      rest_read c.args.self.now.bytes.items c.in-Some.rest.now c.copy_from_slice.new.self c.args.buf.now
          c.args.self.now.read c.min-count.result is (search (rules, arith)) c.copy_from_slice.ensures.after,
      λ none some. nothing_left c.args.self.now.bytes.items c.in-Some.rest.now c.args.self.now.read c.min-count.result
          (length c.args.buf.now) is c.min-count.ensures none (grind (arith, common_steps)),
    )
