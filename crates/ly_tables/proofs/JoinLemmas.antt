-- Sections one behind another.
use Rattle.std.proofs.Common.{◌≡◌, ◌∙◌, ◌++◌, ℕ, List, Option, length, map, ap, sym, append_assoc}
use Rattle.std.specs.Int.{Width, w32, to_be_bytes}
use Rattle.std.specs.List.{flat_map}
use Rattle.std.specs.Option.{option_map}
use Rattle.std.proofs.lemmas.List.{length-map}
use Rattle.ly_base.specs.declared.numbers.RuleNo.{RuleNo}
use Rattle.ly_pack.specs.Combs.{slots_from, used_from}
use Rattle.ly_pack.specs.Rows.{Comb, Used}
use Rattle.ly_pack.specs.Values.{rule_from}
use Rattle.ly_pack.specs.declared.comb_rows.Slot.{Slot}
use Rattle.ly_pack.specs.declared.rule.TableRule as code
use Rattle.ly_tables.specs.Spelling.{check_of, comb, counted_from_one, next_of, number, or_zero, rule, scan_rule}
use Rattle.ly_tables.specs.Spelling.{starts}
use Rattle.ly_tables.specs.Values.{scan_rule_from, starts_from}
use Rattle.ly_tables.specs.declared.scan_rule.ScanRule as scan
use Rattle.ly_scan.specs.declared.starts.Starts as start

pub four_joined : (o : List ℕ) {o1 o2 o3 o4 : List ℕ} (a b c d : List ℕ) → o1 ≡ o ++ a → o2 ≡ o1 ++ b → o3 ≡ o2 ++ c
    → o4 ≡ o3 ++ d → o4 ≡ o ++ (((a ++ b) ++ c) ++ d)
four_joined o {o1} {o2} {o3} {o4} a b c d first second third last =
    let all : o4 ≡ (((o ++ a) ++ b) ++ c) ++ d = cc in all ∙ simp append_assoc

pub five_joined : {o1 o2 o3 o4 o5 : List ℕ} (a b c d e : List ℕ) → o1 ≡ a → o2 ≡ o1 ++ b → o3 ≡ o2 ++ c
    → o4 ≡ o3 ++ d → o5 ≡ o4 ++ e → o5 ≡ (((a ++ b) ++ c) ++ d) ++ e
five_joined a b c d e first second third fourth last = cc

regrouped : (o n f m g c d : List ℕ)
    → o ++ ((((n ++ f) ++ (m ++ g)) ++ c) ++ d) ≡ o ++ (((((n ++ f) ++ m) ++ g) ++ c) ++ d)
regrouped o n f m g c d = ap (λ x. o ++ ((x ++ c) ++ d)) (simp append_assoc)

-- the sections of the parser, of lists that stand for those of the set
pub parser_joined : (w : Width) (o : List ℕ) {o1 o2 o3 o4 : List ℕ} (rules : List code.TableRule) (defaults : List
    (Option RuleNo))
    (c d : List ℕ) → o1 ≡ o ++ (number w (length rules) ++ flat_map (rule w) (map rule_from rules))
    → o2 ≡ o1 ++ (number w (length defaults) ++ flat_map (or_zero w) (map (option_map (λ p. p.0)) defaults))
    → o3 ≡ o2 ++ c → o4 ≡ o3 ++ d
    → o4 ≡ o ++ (((((number w (length (map rule_from rules)) ++ flat_map (rule w) (map rule_from rules))
    ++ number w (length (map (option_map (λ p. p.0)) defaults)))
    ++ flat_map (or_zero w) (map (option_map (λ p. p.0)) defaults)) ++ c) ++ d)
parser_joined w o rules defaults c d first second third last =
    four_joined o (number w (length rules) ++ flat_map (rule w) (map rule_from rules))
    (number w (length defaults) ++ flat_map (or_zero w) (map (option_map (λ p. p.0)) defaults)) c d
    first second third last
    ∙ ap (λ k. o ++ ((((number w k ++ flat_map (rule w) (map rule_from rules))
    ++ (number w (length defaults) ++ flat_map (or_zero w) (map (option_map (λ p. p.0)) defaults))) ++ c) ++ d))
    (sym (length-map rules rule_from))
    ∙ ap (λ k. o ++ ((((number w (length (map rule_from rules)) ++ flat_map (rule w) (map rule_from rules))
    ++ (number w k ++ flat_map (or_zero w) (map (option_map (λ p. p.0)) defaults))) ++ c) ++ d))
    (sym (length-map defaults (option_map (λ (p : RuleNo). p.0))))
    ∙ regrouped o (number w (length (map rule_from rules))) (flat_map (rule w) (map rule_from rules))
    (number w (length (map (option_map (λ p. p.0)) defaults)))
    (flat_map (or_zero w) (map (option_map (λ p. p.0)) defaults)) c d

six_joined : (o : List ℕ) {o1 o2 o3 o4 o5 o6 : List ℕ} (a b c d e f : List ℕ) → o1 ≡ o ++ a → o2 ≡ o1 ++ b
    → o3 ≡ o2 ++ c → o4 ≡ o3 ++ d → o5 ≡ o4 ++ e → o6 ≡ o5 ++ f → o6 ≡ o ++ (((((a ++ b) ++ c) ++ d) ++ e) ++ f)
six_joined o {o1} {o2} {o3} {o4} {o5} {o6} a b c d e f first second third fourth fifth last =
    let all : o6 ≡ (((((o ++ a) ++ b) ++ c) ++ d) ++ e) ++ f = cc in all ∙ simp append_assoc

regrouped_scanner : (o n a m b c d k e f : List ℕ) → o ++ ((((((n ++ a) ++ (m ++ b)) ++ c) ++ d) ++ (k ++ e)) ++ f)
    ≡ o ++ ((((((((n ++ a) ++ m) ++ b) ++ c) ++ d) ++ k) ++ e) ++ f)
regrouped_scanner o n a m b c d k e f = ap (λ x. o ++ (x ++ f)) (simp append_assoc)

-- how many items a list has that was mapped, and these
mapped : {A B : Type 0} (w : Width) (spelled : B → List ℕ) (value : A → B) (xs : List A)
    → number w (length xs) ++ flat_map spelled (map value xs)
    ≡ number w (length (map value xs)) ++ flat_map spelled (map value xs)
mapped w spelled value xs = ap (λ n. number w n ++ flat_map spelled (map value xs)) (sym (length-map xs value))

-- the sections of the scanner
pub scanner_joined : (w : Width) (o : List ℕ) {o1 o2 o3 o4 o5 o6 : List ℕ} (rules : List scan.ScanRule)
    (conditions : List start.Starts) (accepted : List (Option RuleNo)) (c d f : List ℕ)
    → o1 ≡ o ++ (number w (length rules) ++ flat_map (scan_rule w) (map scan_rule_from rules))
    → o2 ≡ o1 ++ (number w (length conditions) ++ flat_map (starts w) (map starts_from conditions))
    → o3 ≡ o2 ++ c → o4 ≡ o3 ++ d
    → o5 ≡ o4 ++ (number w (length accepted) ++ flat_map (counted_from_one w) (map (option_map (λ p. p.0)) accepted))
    → o6 ≡ o5 ++ f
    → o6 ≡ o ++ ((((((((number w (length (map scan_rule_from rules)) ++ flat_map (scan_rule w) (map scan_rule_from
    rules)) ++ number w (length (map starts_from conditions))) ++ flat_map (starts w) (map starts_from conditions))
    ++ c) ++ d) ++ number w (length (map (option_map (λ p. p.0)) accepted)))
    ++ flat_map (counted_from_one w) (map (option_map (λ p. p.0)) accepted)) ++ f)
scanner_joined w o {o1} {o2} {o3} {o4} rules conditions accepted c d f first second third fourth fifth last =
    let number_of = λ (p : RuleNo). p.0 in
    six_joined o _ _ c d _ f (first ∙ ap (λ x. o ++ x) (mapped w (scan_rule w) scan_rule_from rules))
    (second ∙ ap (λ x. o1 ++ x) (mapped w (starts w) starts_from conditions)) third fourth
    (fifth ∙ ap (λ x. o4 ++ x) (mapped w (counted_from_one w) (option_map number_of) accepted)) last
    ∙ regrouped_scanner o (number w (length (map scan_rule_from rules))) (flat_map (scan_rule w) (map scan_rule_from
    rules)) (number w (length (map starts_from conditions))) (flat_map (starts w) (map starts_from conditions)) c d
    (number w (length (map (option_map number_of) accepted)))
    (flat_map (counted_from_one w) (map (option_map number_of) accepted)) f

-- rows laid over one another, of lists that stand for those of the value
pub comb_joined : {E : Type 0} (w : Width) (code : E → ℕ) (o : List ℕ) {o1 o2 o3 o4 : List ℕ} (c : Comb E) (bases : List
    ℕ)
    (slots : List (Option (Slot E))) → bases ≡ c.bases → slots_from slots ≡ c.slots
    → o1 ≡ o ++ flat_map (to_be_bytes w32) bases → o2 ≡ o1 ++ to_be_bytes w32 (length slots)
    → o3 ≡ o2 ++ flat_map (λ u. number w (next_of code u)) (slots_from slots)
    → o4 ≡ o3 ++ flat_map (λ u. number w (check_of w u)) (slots_from slots)
    → o4 ≡ o ++ comb w code c
comb_joined {E} w code o c bases slots is_bases is_slots first second third last =
    four_joined o (flat_map (to_be_bytes w32) bases) (to_be_bytes w32 (length slots)) (nexts (slots_from slots))
    (checks (slots_from slots)) first second third last
    ∙ ap (λ b. o ++ (((flat_map (to_be_bytes w32) b ++ to_be_bytes w32 (length slots)) ++ nexts (slots_from slots))
    ++ checks (slots_from slots))) is_bases
    ∙ ap (λ n. o ++ (((flat_map (to_be_bytes w32) c.bases ++ to_be_bytes w32 n) ++ nexts (slots_from slots))
    ++ checks (slots_from slots))) (sym (length-map slots (option_map used_from)))
    ∙ ap (λ us. o ++ (((flat_map (to_be_bytes w32) c.bases ++ to_be_bytes w32 (length us)) ++ nexts us)
    ++ checks us)) is_slots
  where
    nexts : List (Option (Used E)) → List ℕ
    nexts us = flat_map (λ u. number w (next_of code u)) us

    checks : List (Option (Used E)) → List ℕ
    checks us = flat_map (λ u. number w (check_of w u)) us
