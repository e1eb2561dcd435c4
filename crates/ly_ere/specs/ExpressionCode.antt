-- An encoding of expressions in postfix order, which is decoded with a stack of expressions.
use Rattle.std.specs.Prelude.{◌≡◌, ℕ, zero, suc, ◌⊎◌, List, [], ◌∷◌, ◌++◌, Option, refl}
use mathlib.Core.Logic.{inl, inr}
use mathlib.Core.Path.{ap, ◌∙◌}
use Rattle.std.specs.Coded.{Coded, code_by, coded×, coded⊎, coded_ℕ, coded_list, coded_option}
use Rattle.ly_ere.specs.Expression.{Expression, set, empty, concat, either, star, plus, optional, repeat, name}

-- an item in postfix order: a set, a name, a repetition, or an operator by its number
abbrev pub PostfixItem : Type 0
PostfixItem = List ℕ ⊎ (ℕ ⊎ ((ℕ × Option ℕ) ⊎ ℕ))

-- the operator with this number
abbrev pub operator : ℕ → PostfixItem
operator k = inr (inr (inr k))

-- an expression in postfix order
abbrev pub to_items : Expression → List PostfixItem
to_items (set bytes) = inl bytes ∷ []
to_items empty = operator 0 ∷ []
to_items (concat r s) = to_items r ++ (to_items s ++ operator 1 ∷ [])
to_items (either r s) = to_items r ++ (to_items s ++ operator 2 ∷ [])
to_items (star r) = to_items r ++ operator 3 ∷ []
to_items (plus r) = to_items r ++ operator 4 ∷ []
to_items (optional r) = to_items r ++ operator 5 ∷ []
to_items (repeat m n r) = to_items r ++ inr (inr (inl (m, n))) ∷ []
to_items (name x) = inr (inl x) ∷ []

-- the stack after an operator
abbrev pub operate : ℕ → List Expression → List Expression
operate zero st = empty ∷ st
operate (suc zero) (s ∷ r ∷ st) = concat r s ∷ st
operate (suc (suc zero)) (s ∷ r ∷ st) = either r s ∷ st
operate (suc (suc (suc zero))) (r ∷ st) = star r ∷ st
operate (suc (suc (suc (suc zero)))) (r ∷ st) = plus r ∷ st
operate (suc (suc (suc (suc (suc k))))) (r ∷ st) = optional r ∷ st
operate _ st = st

-- the stack after a repetition
abbrev pub repeated : ℕ → Option ℕ → List Expression → List Expression
repeated m n [] = []
repeated m n (r ∷ st) = repeat m n r ∷ st

-- the stack after an item
abbrev pub take_item : PostfixItem → List Expression → List Expression
take_item (inl bytes) st = set bytes ∷ st
take_item (inr (inl x)) st = name x ∷ st
take_item (inr (inr (inl p))) st = repeated p.0 p.1 st
take_item (inr (inr (inr k))) st = operate k st

-- the stack after items
abbrev pub take_items : List PostfixItem → List Expression → List Expression
take_items [] st = st
take_items (p ∷ ps) st = take_items ps (take_item p st)

-- the top of the stack
abbrev pub topmost : List Expression → Expression
topmost [] = empty
topmost (r ∷ st) = r

-- the expression of items in postfix order
abbrev pub from_items : List PostfixItem → Expression
from_items ps = topmost (take_items ps [])

take_items-append : (ps qs : List PostfixItem) (st : List Expression)
    → take_items (ps ++ qs) st ≡ take_items qs (take_items ps st)
take_items-append [] qs st = refl
take_items-append (p ∷ ps) qs st = take_items-append ps qs (take_item p st)

reads : (r : Expression) (st : List Expression) → take_items (to_items r) st ≡ r ∷ st
reads (set bytes) st = refl
reads empty st = refl
reads (concat r s) st = take_items-append (to_items r) (to_items s ++ operator 1 ∷ []) st
    ∙ (take_items-append (to_items s) (operator 1 ∷ []) (take_items (to_items r) st)
    ∙ (ap (λ x. operate 1 (take_items (to_items s) x)) (reads r st) ∙ ap (operate 1) (reads s (r ∷ st))))
reads (either r s) st = take_items-append (to_items r) (to_items s ++ operator 2 ∷ []) st
    ∙ (take_items-append (to_items s) (operator 2 ∷ []) (take_items (to_items r) st)
    ∙ (ap (λ x. operate 2 (take_items (to_items s) x)) (reads r st) ∙ ap (operate 2) (reads s (r ∷ st))))
reads (star r) st = take_items-append (to_items r) (operator 3 ∷ []) st ∙ ap (operate 3) (reads r st)
reads (plus r) st = take_items-append (to_items r) (operator 4 ∷ []) st ∙ ap (operate 4) (reads r st)
reads (optional r) st = take_items-append (to_items r) (operator 5 ∷ []) st ∙ ap (operate 5) (reads r st)
reads (repeat m n r) st = take_items-append (to_items r) (inr (inr (inl (m, n))) ∷ []) st
    ∙ ap (repeated m n) (reads r st)
reads (name x) st = refl

pub from_items-to_items : (r : Expression) → from_items (to_items r) ≡ r
from_items-to_items r = ap topmost (reads r [])

-- an expression is encoded as its items in postfix order
abbrev pub expression_code : Coded Expression
expression_code =
    code_by (List PostfixItem)
    (coded_list
    (coded⊎ (coded_list coded_ℕ) (coded⊎ coded_ℕ (coded⊎ (coded× coded_ℕ (coded_option coded_ℕ)) coded_ℕ))))
    to_items from_items from_items-to_items
