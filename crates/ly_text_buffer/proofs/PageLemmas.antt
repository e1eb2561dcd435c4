-- What is said on a page, piece by piece.
use Rattle.std.proofs.Common.{◌≡◌, ℕ, List, [], ◌++◌, Option, Some, None, map, slice_get, refl, subst, append-nil}
use Rattle.std.proofs.Common.{append_assoc, arith}
use Rattle.std.proofs.lemmas.Option.{slice_get-map}
use Rattle.std.specs.Option.{option_map}
use Rattle.ly_join.specs.Grammar.{GrammarRule}
use Rattle.ly_text_buffer.specs.TextBuffer.{Says}

-- no bytes leave a page as it is
pub nothing_said : (buffer : Option (List ℕ)) (bytes : List ℕ) → bytes ≡ [] → Says buffer bytes buffer
nothing_said None bytes none = tt
nothing_said (Some text) bytes none = rw (none, append-nil) refl

-- bytes behind bytes are said together
pub said_behind : (a b c : Option (List ℕ)) (x y : List ℕ) → Says a x b → Says b y c → Says a (x ++ y) c
said_behind a b None x y one other = tt
said_behind (Some t) (Some u) (Some v) x y one other = grind (arith, append_assoc)
said_behind None (Some u) (Some v) x y one other = cc
said_behind a None (Some v) x y one other = cc

-- rules of which none is removed, by their numbers
pub numbered : (rules : List GrammarRule) (kept : List (Option GrammarRule)) (p : ℕ) (found : Option GrammarRule)
    → map Some rules ≡ kept
    → slice_get rules p ≡ found → slice_get kept p ≡ option_map Some found
numbered rules kept p found these here =
    subst (λ xs. slice_get xs p ≡ option_map Some found) these (rw (slice_get-map Some rules p, here) refl)
