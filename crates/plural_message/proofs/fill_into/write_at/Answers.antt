use Rattle.std.proofs.Common.{◌≡◌, ℕ, ◌+◌, ◌≤◌, ◌++◌, List, length, length-append, length-take, append_assoc, take, drop, sym, ap, ◌∙◌, arith}
use Rattle.std.proofs.lemmas.List.{drop_at, drop-drop}
use Rattle.plural_message.proofs.fill_into.write_at.Goals as goal

-- what lies behind a text of n bytes that was put at a place
behind : (at n k : ℕ) (old text : List ℕ) → at + k ≡ at + n → length text ≡ n → at + n ≤ length old
    → drop (at + n) (take at old ++ (text ++ drop k (drop at old))) ≡ drop (at + n) old
behind at n k old text same size room =
    ap (λ l. drop (at + n) l) (sym (append_assoc (take at old) text (drop k (drop at old))))
    ∙ drop_at (take at old ++ text) (drop k (drop at old)) (at + n)
    (omega (arith, room, size, length-append (take at old) text, length-take at old))
    ∙ drop-drop k at old ∙ ap (λ m. drop m old) same

pub returns-clause-behind : goal.returns-clause-behind
returns-clause-behind c =
    behind c.args.at (length c.args.text.now) _ c.args.out.now c.copy_from_slice.new.self (omega arith)
    (ap length (c.copy_from_slice.ensures.after ∙ c.as_bytes.ensures.value)) c.requires
