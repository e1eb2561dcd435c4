-- A fault of the whole is that of a part.
use Rattle.std.proofs.Common.{◌≡◌, ◌≢◌, ◌∙◌, ℕ, Err, IfErr, IfOk, List, Ok, Result, inl, inr, subst, sym}
use Rattle.ly_base.specs.Limits.{Sizes}
use Rattle.ly_join.specs.Joined.{Spec}
use Rattle.ly_generate.specs.Accepted.{IsRefusedFor, IsUnfitFor, Specifies}
use Rattle.std.specs.Result.{IsErrAnd}
use Rattle.ly_lexread.specs.LexText.{IsLight, LexText}
use Rattle.ly_lexread.specs.declared.file.LexFile.{LexFile}
use Rattle.ly_tokens.specs.ScannerFault.{HasNoScanner}
use Rattle.ly_tokens.specs.declared.scanner_fault.ScannerFault.{ScannerFault}
use Rattle.ly_tokens.specs.declared.scanner_fault.ScannerFault.TheVariants as scanner
use Rattle.ly_generate.specs.GenFault.{gen_of_scanner, Becomes}
use Rattle.ly_generate.specs.declared.gen_fault.GenFault.{GenFault}
use Rattle.ly_generate.specs.declared.gen_fault.GenFault.TheVariants.{Automaton, Endless, Grammar as NoGrammar, Join}
use Rattle.ly_generate.specs.declared.gen_fault.GenFault.TheVariants.{Lex, OutOfMemory, Positions, States, Yacc}

-- what holds of want of memory and of a wrapped fault holds of what a fault becomes
pub when_becomes : {T F : Type 0} (r : Result T GenFault) (memory : F) (wrap : F → GenFault) (f : F)
    (P : GenFault → Type 0) → IsErrAnd r (Becomes memory wrap f) → P OutOfMemory → (f ≢ memory → P (wrap f)) → IfErr r P
when_becomes (Ok x) memory wrap f P h none some = tt
when_becomes (Err e) memory wrap f P (inl (is, same)) none some = subst P (sym same) none
when_becomes (Err e) memory wrap f P (inr (ne, same)) none some = subst P (sym same) (some ne)

-- files whose scanner isn't within the limits are refused
pub scanner_refused : (limits : Sizes) (lex yacc : List ℕ) (file : LexFile) (f : ScannerFault) → LexText lex file
    → IsLight limits.pattern_weight file → HasNoScanner limits file f
    → IsRefusedFor limits lex yacc (gen_of_scanner f)
scanner_refused limits lex yacc file (scanner.Positions f) text light (is, heavy) = (is, (file, text, light, heavy))
scanner_refused limits lex yacc file (scanner.States f) text light (is, within, many)
    = (is, (file, text, light, within, many))
scanner_refused limits lex yacc file scanner.OutOfMemory text light h = tt

-- a fault that is handed on
pub when_same : {T : Type 0} (r : Result T GenFault) (f : GenFault) (P : GenFault → Type 0) → IsErrAnd r (λ e. e ≡ f)
    → P f → IfErr r P
when_same (Ok x) f P h p = tt
when_same (Err e) f P h p = subst P (sym h) p

-- what follows from what holds at Ok, or at a fault
pub ok_weaker : {T E : Type 0} (r : Result T E) (P Q : T → Type 0) → ((x : T) → P x → Q x) → IfOk r P → IfOk r Q
ok_weaker (Ok x) P Q f h = f x h
ok_weaker (Err e) P Q f h = h

pub ok_both : {T E : Type 0} (r : Result T E) (P Q R : T → Type 0) → ((x : T) → P x → Q x → R x) → IfOk r P → IfOk r Q
    → IfOk r R
ok_both (Ok x) P Q R f h k = f x h k
ok_both (Err e) P Q R f h k = h

pub err_weaker : {T E : Type 0} (r : Result T E) (P Q : E → Type 0) → ((e : E) → P e → Q e) → IfErr r P → IfErr r Q
err_weaker (Ok x) P Q f h = h
err_weaker (Err e) P Q f h = f e h

-- what makes a specification unfit refuses the files that say it
pub unfit_refused : (limits : Sizes) (lex yacc : List ℕ) (s : Spec) → Specifies limits lex yacc s → (fault : GenFault)
    → IsUnfitFor limits s fault → IsRefusedFor limits lex yacc fault
unfit_refused limits lex yacc s specifies (Lex f) unfit = absurd unfit
unfit_refused limits lex yacc s specifies (Yacc f) unfit = absurd unfit
unfit_refused limits lex yacc s specifies (Join f) unfit = absurd unfit
unfit_refused limits lex yacc s specifies (Positions f) unfit = absurd unfit
unfit_refused limits lex yacc s specifies (States f) unfit = absurd unfit
unfit_refused limits lex yacc s specifies (NoGrammar f) unfit = (s, specifies, unfit)
unfit_refused limits lex yacc s specifies (Automaton f) unfit = (s, specifies, unfit)
unfit_refused limits lex yacc s specifies (Endless below top t name) unfit = (s, specifies, unfit)
unfit_refused limits lex yacc s specifies OutOfMemory unfit = tt
