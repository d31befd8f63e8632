-- Answers to lines.
use Rattle.std.proofs.Common.{arith, ◌≡◌, Bool, false, Option, Err, option_map, codes}
use Rattle.iref.specs.{Rules.{Text, InUtf8}, Characters.{iri_chars, iri_above_ascii}}
use Rattle.iref.specs.{Grammar.{IsPath, IsUri, IsUriReference}, PathValue.{spell_path, read_path}, Contexts.{alone}}
use Rattle.iref.specs.Reference.{ReferenceValue, read_reference, spell}
use Rattle.iref.specs.{ComponentTexts.{ComponentTexts, spell_components}, Guard.{guarded}, NormalList.{normal}}
use Rattle.iref.specs.{Key.{are_alike}, Relative.{relative_to}, Resolution.{resolved}, Mapping.{mapped}}
use Rattle.iref.proofs.PathTextLemmas.{Decides-is_path}
use Rattle.iref.proofs.{ReferenceRuleLemmas.{Decides-is_uri, Decides-is_uri_reference}, TieLemmas.{references_tie}}
use Rattle.iref_batch.specs.Lines.{Request, answer_if_valid, read_line, answer, InvalidText, Answered, Parts, Resolve, Relative, Normal, Equal, ToUri, answer_to, is_valid, part_fields, yes_or_no, all_verbs}
use Rattle.iref_batch.specs.{EditFields.{IsRead, IsRefusal}, Runs.{line_reply, reply_to}}
use Rattle.iref_batch.specs.declared.edit_fields.FieldError.{FieldError}

-- what is written for a line is what is written for its request
pub reply_of : (line : Text) (asked : Option Request) → read_line all_verbs line ≡ asked → line_reply line ≡ reply_to asked
unfolding answer
reply_of line asked e = grind arith

-- the answer to a request whose texts are not in their grammars
pub invalid : (request : Request) → is_valid iri_chars request ≡ false → answer_if_valid iri_chars request ≡ InvalidText
invalid request h = grind arith

-- what is written where fields were not read
pub refusal : {A : Type 0} (is_fit : A → Bool) (request : A → Request) (read : Option A) (error : FieldError) → ((a : A) → is_fit a ≡ false → is_valid iri_chars (request a) ≡ false) → IsRead (λ (a : A). a) is_fit read (Err error) → IsRefusal error (reply_to (option_map request read))
refusal is_fit request read error unfit h = grind (arith, invalid)

-- what the tests answer of texts in the grammar, and of others
pub parts_answer : (text : Text) (t : ComponentTexts) → InUtf8 (IsUriReference iri_chars) text → t ≡ spell_components (read_reference text) → answer_if_valid iri_chars (Parts text) ≡ Answered (part_fields t)
unfolding is_valid answer_to
parts_answer text t h k = grind (arith, Decides-is_uri_reference iri_chars iri_above_ascii text)

pub no_parts_answer : (text : Text) → ¬ (InUtf8 (IsUriReference iri_chars) text) → answer_if_valid iri_chars (Parts text) ≡ InvalidText
unfolding is_valid
no_parts_answer text h = grind (arith, Decides-is_uri_reference iri_chars iri_above_ascii text)

pub resolve_answer : (reference base written : Text) (r b : ReferenceValue) → InUtf8 (IsUriReference iri_chars) reference → InUtf8 (IsUri iri_chars) base → r ≡ read_reference reference → b ≡ read_reference base → written ≡ spell (resolved b r) → answer_if_valid iri_chars (Resolve reference base) ≡ Answered written
unfolding is_valid answer_to
resolve_answer text base written r b h k e f w = grind (arith, Decides-is_uri_reference iri_chars iri_above_ascii text, Decides-is_uri iri_chars iri_above_ascii base)

pub no_reference_to_resolve : (text base : Text) → ¬ (InUtf8 (IsUriReference iri_chars) text) → answer_if_valid iri_chars (Resolve text base) ≡ InvalidText
unfolding is_valid
no_reference_to_resolve text base h = grind (arith, Decides-is_uri_reference iri_chars iri_above_ascii text)

pub no_base_to_resolve : (text base : Text) → ¬ (InUtf8 (IsUri iri_chars) base) → answer_if_valid iri_chars (Resolve text base) ≡ InvalidText
unfolding is_valid
no_base_to_resolve text base h = grind (arith, Decides-is_uri iri_chars iri_above_ascii base)

pub relative_answer : (target base written : Text) (t b : ReferenceValue) → InUtf8 (IsUriReference iri_chars) target → InUtf8 (IsUriReference iri_chars) base → t ≡ read_reference target → b ≡ read_reference base → written ≡ spell (relative_to t b) → answer_if_valid iri_chars (Relative target base) ≡ Answered written
unfolding is_valid answer_to
relative_answer target base written t b h k e f w = grind (arith, Decides-is_uri_reference iri_chars iri_above_ascii target, Decides-is_uri_reference iri_chars iri_above_ascii base)

pub no_target_to_lead_to : (target base : Text) → ¬ (InUtf8 (IsUriReference iri_chars) target) → answer_if_valid iri_chars (Relative target base) ≡ InvalidText
unfolding is_valid
no_target_to_lead_to target base h = grind (arith, Decides-is_uri_reference iri_chars iri_above_ascii target)

pub no_base_to_lead_from : (target base : Text) → ¬ (InUtf8 (IsUriReference iri_chars) base) → answer_if_valid iri_chars (Relative target base) ≡ InvalidText
unfolding is_valid
no_base_to_lead_from target base h = grind (arith, Decides-is_uri_reference iri_chars iri_above_ascii base)

pub normal_answer : (text same written : Text) → InUtf8 (IsPath iri_chars) text → same ≡ text → written ≡ spell_path (guarded alone (normal (read_path same))) → answer_if_valid iri_chars (Normal text) ≡ Answered written
unfolding is_valid answer_to
normal_answer text same written h e w = grind (arith, Decides-is_path iri_chars iri_above_ascii text)

pub no_normal_answer : (text : Text) → ¬ (InUtf8 (IsPath iri_chars) text) → answer_if_valid iri_chars (Normal text) ≡ InvalidText
unfolding is_valid
no_normal_answer text h = grind (arith, Decides-is_path iri_chars iri_above_ascii text)

pub equal_answer : (left right : Text) (r s : ReferenceValue) (equal : Bool) → InUtf8 (IsUriReference iri_chars) left → InUtf8 (IsUriReference iri_chars) right → r ≡ read_reference left → s ≡ read_reference right → equal ≡ are_alike r s → answer_if_valid iri_chars (Equal left right) ≡ Answered (yes_or_no equal)
unfolding is_valid answer_to
equal_answer left right r s equal h k e f a = grind (arith, Decides-is_uri_reference iri_chars iri_above_ascii left, Decides-is_uri_reference iri_chars iri_above_ascii right)

-- one text twice
pub same_answer : (left right : Text) → left ≡ right → InUtf8 (IsUriReference iri_chars) left → answer_if_valid iri_chars (Equal left right) ≡ Answered (codes "yes")
same_answer left right e h = grind (arith, equal_answer, references_tie)

pub no_left_answer : (left right : Text) → ¬ (InUtf8 (IsUriReference iri_chars) left) → answer_if_valid iri_chars (Equal left right) ≡ InvalidText
unfolding is_valid
no_left_answer left right h = grind (arith, Decides-is_uri_reference iri_chars iri_above_ascii left)

pub no_right_answer : (left right : Text) → ¬ (InUtf8 (IsUriReference iri_chars) right) → answer_if_valid iri_chars (Equal left right) ≡ InvalidText
unfolding is_valid
no_right_answer left right h = grind (arith, Decides-is_uri_reference iri_chars iri_above_ascii right)

pub to_uri_answer : (text same written : Text) → InUtf8 (IsUriReference iri_chars) text → same ≡ text → written ≡ mapped same → answer_if_valid iri_chars (ToUri text) ≡ Answered written
unfolding is_valid answer_to
to_uri_answer text same written h e w = grind (arith, Decides-is_uri_reference iri_chars iri_above_ascii text)

pub no_to_uri_answer : (text : Text) → ¬ (InUtf8 (IsUriReference iri_chars) text) → answer_if_valid iri_chars (ToUri text) ≡ InvalidText
unfolding is_valid
no_to_uri_answer text h = grind (arith, Decides-is_uri_reference iri_chars iri_above_ascii text)
