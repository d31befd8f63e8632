-- What the command answers to words.
use Rattle.std.proofs.Common.{◌≡◌, Bool, Some, None, Result, Ok, Err, ap, sym, subst, ◌∙◌, codes}
use Rattle.iref.specs.{Characters.{iri_chars}, Contexts.{alone}, Faults.{fault_of_part, fault_of_reference, fault_of_uri}, Rules.{Text}}
use Rattle.iref.specs.{Guard.{guarded}, NormalList.{normal}, PathValue.{read_path, spell_path}, Reference.{read_reference, spell}}
use Rattle.iref.specs.{Key.{are_alike}, Mapping.{mapped}, Relative.{relative_to}, Relativized.{relativized}, Resolution.{resolved}}
use Rattle.iref.proofs.ReferenceCutLemmas.{read_reference-spelled}
use Rattle.iref_batch.specs.Lines.{Answered, Equal, Normal, Relative, Resolve, ToUri, answer_to, yes_or_no}
use Rattle.iref_fault.specs.declared.part.PartRule.TheVariants as part
use Rattle.iref_tool.specs.Commands.{equal_reply, normal_reply, or_no_reference, relative_reply, relativized_reply, resolved_reply, to_uri_reply}
use Rattle.iref_tool.specs.Replies.{Reply, Returns, Says, Tells, WrongWord, if_iri, if_reference, unless_wrong, wrong_word}
use Rattle.iref_tool.specs.declared.refusal.{Refusal.{Refusal}, Refusal.TheVariants.{Memory, Word}}

pub tells : {A : Type 0} (read : Result A WrongWord) (refusal : Refusal) → Says ⊥ read refusal → Tells read refusal
tells read (Word argument word why) said = said
tells read Memory said = tt

-- what is wrong with a part is wrong with the whole
pub stops : {A B V : Type 0} (shown : V → B) (part : Result A WrongWord) (whole : Result B WrongWord) (result : Result V Refusal) (refusal : Refusal) → result ≡ Err refusal → ((wrong : WrongWord) → part ≡ Err wrong → whole ≡ Err wrong) → Tells part refusal → Returns shown whole result
stops shown part whole result (Word argument word why) is f told = subst (λ r. Returns shown whole r) (sym is) (f (wrong_word argument.now word.now why) told)
stops shown part whole result Memory is f told = subst (λ r. Returns shown whole r) (sym is) tt

pub normal_said : (word spelled text : Text) → fault_of_part iri_chars part.Path word ≡ None → spelled ≡ word → text ≡ spell_path (guarded alone (normal (read_path spelled))) → normal_reply word ≡ Ok (Answered text)
unfolding answer_to
normal_said word spelled text none same is =
    ap (λ o. unless_wrong (codes "PATH") (codes "path") word word o (Ok (answer_to (Normal word)))) none
    ∙ ap (λ t. Ok (Answered t)) (sym (is ∙ ap (λ t. spell_path (guarded alone (normal (read_path t)))) same))

pub resolved_said : (word base spelled from text : Text) → fault_of_reference iri_chars word ≡ None → fault_of_uri iri_chars base ≡ None → spelled ≡ word → from ≡ base → text ≡ spell (resolved (read_reference from) (read_reference spelled)) → resolved_reply word base ≡ Ok (Answered text)
unfolding answer_to
resolved_said word base spelled from text none none_of_base same same_base is =
    ap (λ o. unless_wrong (codes "REFERENCE") (codes "IRI reference") word word o (if_iri (codes "BASE") base base (Ok (answer_to (Resolve word base))))) none
    ∙ ap (λ o. unless_wrong (codes "BASE") (codes "IRI") base base o (Ok (answer_to (Resolve word base)))) none_of_base
    ∙ ap (λ t. Ok (Answered t)) (sym (is ∙ ap (λ t. spell (resolved (read_reference t) (read_reference spelled))) same_base ∙ ap (λ t. spell (resolved (read_reference base) (read_reference t))) same))

-- of two references that were read one after the other
both_read : (first second word other : Text) (reply : Reply) → fault_of_reference iri_chars word ≡ None → fault_of_reference iri_chars other ≡ None → if_reference first word (if_reference second other reply) ≡ reply
both_read first second word other reply none none_of_other =
    ap (λ o. unless_wrong first (codes "IRI reference") word word o (if_reference second other reply)) none
    ∙ ap (λ o. unless_wrong second (codes "IRI reference") other other o reply) none_of_other

pub relative_said : (target base spelled from text : Text) → fault_of_reference iri_chars target ≡ None → fault_of_reference iri_chars base ≡ None → spelled ≡ target → from ≡ base → text ≡ spell (relative_to (read_reference spelled) (read_reference from)) → relative_reply target base ≡ Ok (Answered text)
unfolding answer_to
relative_said target base spelled from text none none_of_base same same_base is =
    both_read (codes "TARGET") (codes "BASE") target base (Ok (answer_to (Relative target base))) none none_of_base
    ∙ ap (λ t. Ok (Answered t)) (sym (is ∙ ap (λ t. spell (relative_to (read_reference t) (read_reference from))) same ∙ ap (λ t. spell (relative_to (read_reference target) (read_reference t))) same_base))

pub equal_said : (first second one other text : Text) (is_equal : Bool) → fault_of_reference iri_chars first ≡ None → fault_of_reference iri_chars second ≡ None → one ≡ first → other ≡ second → is_equal ≡ are_alike (read_reference one) (read_reference other) → text ≡ yes_or_no is_equal → equal_reply first second ≡ Ok (Answered text)
unfolding answer_to
equal_said first second one other text is_equal none none_of_second same same_second alike is =
    both_read (codes "FIRST") (codes "SECOND") first second (Ok (answer_to (Equal first second))) none none_of_second
    ∙ ap (λ t. Ok (Answered t)) (sym (is ∙ ap yes_or_no alike ∙ ap (λ t. yes_or_no (are_alike (read_reference t) (read_reference other))) same ∙ ap (λ t. yes_or_no (are_alike (read_reference first) (read_reference t))) same_second))

pub to_uri_said : (iri spelled text : Text) → fault_of_reference iri_chars iri ≡ None → spelled ≡ iri → text ≡ mapped spelled → to_uri_reply iri ≡ Ok (Answered text)
unfolding answer_to
to_uri_said iri spelled text none same is =
    ap (λ o. unless_wrong (codes "IRI") (codes "IRI reference") iri iri o (Ok (answer_to (ToUri iri)))) none
    ∙ ap (λ t. Ok (Answered t)) (sym (is ∙ ap mapped same))

pub relativized_said : (target base spelled from text : Text) → fault_of_uri iri_chars target ≡ None → fault_of_uri iri_chars base ≡ None → spelled ≡ target → from ≡ base → Some (read_reference text) ≡ relativized (read_reference spelled) (read_reference from) → relativized_reply target base ≡ Ok (Answered text)
relativized_said target base spelled from text none none_of_base same same_base is =
    ap (λ o. unless_wrong (codes "BASE") (codes "IRI") base base o (if_iri (codes "TARGET") target target (or_no_reference target (relativized (read_reference target) (read_reference base))))) none_of_base
    ∙ ap (λ o. unless_wrong (codes "TARGET") (codes "IRI") target target o (or_no_reference target (relativized (read_reference target) (read_reference base)))) none
    ∙ ap (λ t. or_no_reference target (relativized (read_reference t) (read_reference base))) (sym same)
    ∙ ap (λ t. or_no_reference target (relativized (read_reference spelled) (read_reference t))) (sym same_base)
    ∙ ap (or_no_reference target) (sym is) ∙ ap (λ t. Ok (Answered t)) (read_reference-spelled text)
