use Rattle.std.proofs.Common.{◌<◌, subst}
use Rattle.std.specs.Prelude.{All}
use Rattle.ly_tree.proofs.OfBytesLemmas.{headed_of_bytes}
use Rattle.ly_tree.proofs.headed.lists_are_bytes.Goals as goal

pub returns : goal.returns
returns g c = subst (All (λ list. All (λ byte. byte < 256) list.1)) c.lists.view_is
    (headed_of_bytes 0 c.lists.inside.headings.items c.lists.inside.members.items
    (subst (All (λ byte. byte < 256)) c.deref.ensures.value c.are_bytes.ensures))
