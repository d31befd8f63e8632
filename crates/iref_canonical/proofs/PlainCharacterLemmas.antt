-- The characters of URIs that stand alone in a component are ASCII, and no `%`.
use Rattle.std.proofs.Common.{refl}
use Rattle.iref_grammar.specs.Characters.{uri_chars}
use Rattle.iref_grammar.specs.Grammar.{is_reg_name_char, is_user_info_char, is_path_char, is_fragment_char, is_query_char}
use Rattle.iref_grammar.proofs.AsciiReferenceLemmas.{reg_name_ascii, user_info_ascii, path_ascii, fragment_ascii, query_ascii}
use Rattle.iref_canonical.proofs.EncodedTextLemmas.{IsPlain}

pub plain_name : IsPlain (is_reg_name_char uri_chars)
unfolding is_reg_name_char
plain_name = record { ascii = reg_name_ascii; percent = refl }

pub plain_user_info : IsPlain (is_user_info_char uri_chars)
unfolding is_user_info_char is_reg_name_char
plain_user_info = record { ascii = user_info_ascii; percent = refl }

pub plain_path : IsPlain (is_path_char uri_chars)
unfolding is_path_char is_user_info_char is_reg_name_char
plain_path = record { ascii = path_ascii; percent = refl }

pub plain_fragment : IsPlain (is_fragment_char uri_chars)
unfolding is_fragment_char is_path_char is_user_info_char is_reg_name_char
plain_fragment = record { ascii = fragment_ascii; percent = refl }

pub plain_query : IsPlain (is_query_char uri_chars)
unfolding is_query_char is_fragment_char is_path_char is_user_info_char is_reg_name_char
plain_query = record { ascii = query_ascii; percent = refl }
