use Rattle.std.proofs.Common.{◌≡◌, ◌∙◌, ◌+◌, ◌++◌, ◌∷◌, [], ap, arith, length, sym}
use Rattle.lytab_c.proofs.NameLemmas.{ends_more, joined_more}
use Rattle.lytab_c.specs.Naming.{ends_from, joined}
use Rattle.lytab_c.proofs.name_list.NameList.push.Goals as goal

pub returns : goal.returns
returns c names is =
    let name = c.args.name.now in
    let bytes : c.extend_from_slice.new.self.items ≡ joined names ++ name
    = c.in_ok-extend_from_slice.ensures.items ∙ ap (λ front. front ++ name) is.bytes in
    let size : c.len.result ≡ length (joined names ++ name)
    = c.len.ensures ∙ (c.extend_from_slice.new.self.ok.0 ∙ ap length bytes) in
    let end : c.len.result ≡ 0 + length (joined names ++ name) = omega (arith, size) in
    record {
      bytes = bytes ∙ sym (joined_more names name);
      ends = c.in_ok-push.ensures.items
          ∙ (ap (λ front. front ++ c.len.result ∷ []) is.ends
          ∙ (ap (λ k. ends_from 0 names ++ k ∷ []) end ∙ sym (ends_more 0 names name)));
    }
