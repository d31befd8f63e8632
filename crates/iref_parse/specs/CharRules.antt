-- The rules of characters and escapes by their numbers.
use Rattle.std.specs.Prelude.{ℕ, Bool, ◌==◌, ◌||◌, if◌then◌else◌}
use Rattle.iref_grammar.specs.{Characters.{CharTests}, Grammar.{is_not_percent, slash}}
use Rattle.iref_grammar.specs.Grammar.{is_reg_name_char, is_user_info_char, is_path_char, is_fragment_char, is_query_char}
use Rattle.iref_parse.specs.declared.ascii.TheConstants.{REG_NAME, USER_INFO, SEGMENT, PATH, FRAGMENT, QUERY}

-- the characters that stand for themselves in the rule
unfoldable pub allowed_by : CharTests → ℕ → ℕ → Bool
allowed_by set rule =
    if rule == REG_NAME then is_reg_name_char set
    else (if rule == USER_INFO then is_user_info_char set
    else (if rule == SEGMENT then is_path_char set
    else (if rule == PATH then (λ c. is_path_char set c || c == slash)
    else (if rule == FRAGMENT then is_fragment_char set
    else (if rule == QUERY then is_query_char set
    else is_not_percent)))))
