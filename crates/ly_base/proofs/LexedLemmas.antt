-- Lemmas on texts that are taken apart.
use Rattle.std.proofs.Common.{◌≡◌, ℕ, ◌+◌, List, [], ◌∷◌, ◌++◌, take, drop, Option, ap, subst, ◌∙◌, sym}
use Rattle.std.proofs.Common.{append_assoc, append-nil}
use Rattle.ly_base.specs.Lexed.{Place, Lexed, LexedTo, place_after, token_if, tokens_from}
use Rattle.ly_base.specs.declared.lexeme.End.{End}
use Rattle.ly_base.specs.declared.lexeme.Lexeme.{Lexeme}

-- one more lexeme
pub leads_more : (Is : Place → Lexeme → Type 0) (next : ℕ → Option ℕ) (p q : Place) (ts : List Lexeme) (t : Lexeme)
    → LexedTo Is next p ts q → Is q t → LexedTo Is next p (ts ++ t ∷ []) (place_after next q t)
leads_more Is next p q [] t h w = (subst (λ x. Is x t) h w, ap (λ x. place_after next x t) h)
leads_more Is next p q (u ∷ us) t h w = (h.0, leads_more Is next (place_after next p u) q us t h.1 w)

-- a run goes on from where it stands
pub leads_on : (Is : Place → Lexeme → Type 0) (Ends : Place → End → Type 0) (next : ℕ → Option ℕ) (p q : Place)
    (ts us : List Lexeme) (e : End) → LexedTo Is next p ts q → Lexed Is Ends next q us e
    → Lexed Is Ends next p (ts ++ us) e
leads_on Is Ends next p q [] us e h k = subst (λ x. Lexed Is Ends next x us e) h k
leads_on Is Ends next p q (t ∷ ts) us e h k = (h.0, leads_on Is Ends next (place_after next p t) q ts us e h.1 k)

-- a run by other words
pub lexed_as : (Is Are : Place → Lexeme → Type 0) (Ends Stops : Place → End → Type 0) (next : ℕ → Option ℕ)
    → ((p : Place) (t : Lexeme) → Is p t → Are p t) → ((p : Place) (e : End) → Ends p e → Stops p e)
    → (p : Place) (ts : List Lexeme) (e : End) → Lexed Is Ends next p ts e → Lexed Are Stops next p ts e
lexed_as Is Are Ends Stops next f g p [] e h = g p e h
lexed_as Is Are Ends Stops next f g p (t ∷ ts) e h
    = (f p t h.0, lexed_as Is Are Ends Stops next f g (place_after next p t) ts e h.1)

-- one more lexeme, and its token
pub tokens_more : {T : Type 0} (naming : ℕ → List ℕ → Option T) (Is : Place → Lexeme → Type 0) (next : ℕ → Option ℕ)
    (p q : Place) (ts : List Lexeme) (t : Lexeme) → LexedTo Is next p ts q
    → tokens_from naming p.at p.rest (ts ++ t ∷ [])
    ≡ tokens_from naming p.at p.rest ts ++ token_if (naming t.rule.0 (take t.taken q.rest)) q.at (take t.taken q.rest)
tokens_more naming Is next p q [] t h = append-nil _
    ∙ ap (λ (x : Place). token_if (naming t.rule.0 (take t.taken x.rest)) x.at (take t.taken x.rest)) (sym h)
tokens_more naming Is next p q (u ∷ us) t h =
    ap (λ z. token_if (naming u.rule.0 (take u.taken p.rest)) p.at (take u.taken p.rest) ++ z)
    (tokens_more naming Is next (place_after next p u) q us t h.1) ∙ sym (append_assoc
    (token_if (naming u.rule.0 (take u.taken p.rest)) p.at (take u.taken p.rest))
    (tokens_from naming (p.at + u.taken) (drop u.taken p.rest) us)
    (token_if (naming t.rule.0 (take t.taken q.rest)) q.at (take t.taken q.rest)))
