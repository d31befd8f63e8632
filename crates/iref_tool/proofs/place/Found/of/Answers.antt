use Rattle.std.proofs.Common.{◌≡◌, ◌++◌, List, [], ◌∷◌, ℕ, Option, None, Some, IfSome, ap, append_assoc, append-nil, subst, sym, ◌∙◌}
use Rattle.std.specs.{Fmt.{WritesText}, Fmt.InlineText.{AppendsIfIntact, IsIntact, inline_text}, List.{FoldsTo, concat}}
use Rattle.std.specs.declared.fmt.InlineText.{InlineText}
use Rattle.iref_tool.proofs.place.Found.of.Goals as goal

-- some calls have appended what they wrote
after_calls : {n : ℕ} (s : InlineText n) (parts : List (List ℕ)) (t : InlineText n) → FoldsTo AppendsIfIntact s parts t → AppendsIfIntact s (concat parts) t
after_calls s [] t same intact = (subst IsIntact same intact, ap inline_text (sym same) ∙ sym (append-nil (inline_text s)))
after_calls s (x ∷ parts) t calls intact =
    let first = calls.1 intact in
    let rest = after_calls calls.0 parts t calls.2 first.0 in
    (rest.0, rest.1 ∙ ap (λ l. l ++ concat parts) first.1 ∙ append_assoc (inline_text s) x (concat parts))

of_written : {n : ℕ} (s t : InlineText n) (text : Option (List ℕ)) → IsIntact s → inline_text s ≡ [] → WritesText AppendsIfIntact s text t → IfSome text (λ bs. inline_text t ≡ bs)
of_written s t None intact empty wrote = tt
of_written s t (Some bs) intact empty wrote = (after_calls s wrote.parts t wrote.calls intact).1 ∙ ap (λ l. l ++ concat wrote.parts) empty ∙ wrote.whole

pub returns : goal.returns
returns g c = of_written c.new-text.result c.write.new.self _ c.new-text.ensures.intact c.new-text.ensures.text c.in_ok-write.ensures.writes
