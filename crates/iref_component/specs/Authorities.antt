-- What an edit leaves of an authority that owns its text.
use Rattle.std.specs.Prelude.{◌≡◌, Result, MatchResult}
use Rattle.iref_grammar.specs.Authority.{AuthorityValue}
use Rattle.iref_component.specs.{Components.{text_of}, declared.rule_text.RuleText.{RuleText}, AuthorityTexts.{IsStep}}

-- an edit of an owned authority: at Ok it is this step of the text, and at an Err the text is as it was
abbrev pub EditsOwner : {S R C K s r k c : _} {V E : Type 0} → (AuthorityValue → AuthorityValue) → RuleText S R C K s r k c → RuleText S R C K s r k c → Result V E → Type 0
EditsOwner step old new result =
    MatchResult result (λ _. IsStep step (text_of old) (text_of new)) (λ _. text_of new ≡ text_of old)
