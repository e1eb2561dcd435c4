use Rattle.std.proofs.Common.{◌≡◌, List, ◌++◌, map, take, drop, subst, arith, codes}
use Rattle.std.proofs.lemmas.Grind.{common_steps}
use Rattle.std.proofs.lemmas.List.{take_min, drop_min}
use Rattle.std.specs.List.{take-map, drop-map}
use Rattle.ly_join.specs.Grammar.{Symbol, symbol_of}
use Rattle.ly_text_buffer.specs.TextBuffer.{Says, spaced_words}
use Rattle.ly_text_buffer.proofs.PageLemmas.{said_behind}
use Rattle.ly_text_buffer.proofs.buffer.TextBuffer.push_body.Goals as goal

pub returns-in-Some : goal.returns-in-Some
returns-in-Some c =
    let s = c.args.spec.now in
    let body = c.args.body.now in
    let dot = c.in-Some.dot in
    let first = c.push_symbols-in-Some.new.self in
    let middle = c.push.new.self in
    let last = c.push_symbols-in-Some-2.new.self in
    let front : map symbol_of c.split_at.result.0.now ≡ take dot (map symbol_of body) =
    grind (arith, common_steps, take_min, take-map) in
    let back : map symbol_of c.split_at.result.1.now ≡ drop dot (map symbol_of body) =
    grind (arith, common_steps, drop_min, drop-map) in
    let before : Says c.args.self.now (spaced_words s (take dot (map symbol_of body))) first =
    subst (λ (w : List Symbol). Says c.args.self.now (spaced_words s w) first) front c.push_symbols-in-Some.ensures in
    let behind : Says middle (spaced_words s (drop dot (map symbol_of body))) last =
    subst (λ (w : List Symbol). Says middle (spaced_words s w) last) back c.push_symbols-in-Some-2.ensures in
    rw c.in-Some.is
    (said_behind c.args.self.now middle last (spaced_words s (take dot (map symbol_of body)) ++ codes " .")
    (spaced_words s (drop dot (map symbol_of body)))
    (said_behind c.args.self.now first middle (spaced_words s (take dot (map symbol_of body))) (codes " .") before
    c.push.ensures) behind)
