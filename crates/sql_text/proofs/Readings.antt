-- What the reading of a text's tokens says of the text.
use Rattle.sql_text.proofs.Imports.{◌≡◌, ℕ, ◌≤◌, List, length, Some, None, sym, ◌∙◌, arith, same_Some, none-some, Query, tokens_of, query_tree, Tokens, IsText, Spells, ParseError, ParseFails, text_query, token_refusal, early_refusal, IsRefused, IsReadFrom, parse_refusal_of}
use Rattle.sql_text.proofs.QueryTexts.{text_found, text_spelled}

-- the tokens of a spelled text are spelled
spelled_at : (q : Query) (text : List ℕ) (ts : Tokens) → tokens_of text ≡ Some ts → Spells q text
    → IsText (query_tree q) ts
spelled_at q text ts are s = grind arith

-- what a spelled text is read as
read_at : (q : Query) (text : List ℕ) (ts : Tokens) → tokens_of text ≡ Some ts → Spells q text
    → text_query (length ts) ts ≡ Some (query_tree q)
read_at q text ts are s = text_found (spelled_at q text ts are s) (length ts) (omega arith)

early_is : (text : List ℕ) (ts : Tokens) → length text ≤ 65536 → tokens_of text ≡ Some ts
    → early_refusal text ≡ token_refusal ts
early_is text ts short are = grind arith

pub is_read : (q : Query) (text : List ℕ) (ts : Tokens) → length text ≤ 65536
    → tokens_of text ≡ Some ts → token_refusal ts ≡ None
    → text_query (length ts) ts ≡ Some (query_tree q) → IsReadFrom q text
is_read q text ts short are none read =
    grind (arith, text_spelled (length ts) ts, early_is text ts short are)

pub is_refused : (e : ParseError) (text : List ℕ) (ts : Tokens) → length text ≤ 65536
    → tokens_of text ≡ Some ts → token_refusal ts ≡ None
    → ParseFails e (text_query (length ts) ts) → IsRefused (parse_refusal_of e) text
is_refused e text ts short are none fails = grind (arith, early_is, none-some, read_at)

pub one_tree : (text : List ℕ) (p q : Query) → Spells p text → Spells q text
    → query_tree p ≡ query_tree q
one_tree text p q s t =
    same_Some (query_tree p) (query_tree q)
    (sym (read_at p text s.tokens s.are s) ∙ read_at q text s.tokens s.are t)
