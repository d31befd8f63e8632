-- Links rewritten relative to their page, and links to a text.
use Rattle.std.specs.Prelude.{◌≡◌, ◌⊎◌}
use Rattle.iref.specs.{Characters.{iri_chars, uri_chars}, Grammar.{IsUri, IsUriReference}, Key.{AreAlike}}
use Rattle.iref.specs.{Reference.{ReferenceValue}, Relatives.{ClimbsNoMore, WritesPathAlone}}
use Rattle.iref.specs.{Resolution.{resolved}, Rules.{InUtf8, Text}}
use Rattle.iref.specs.Shortest.{NoneLeads, led_text}

-- the answer leads where the link leads; it has neither scheme nor authority where those of the target are the page's and its path
-- begins at the root, and no relative path that leads there has fewer `..`
pub record IsRelinked (page link answer : ReferenceValue) : Type 0 where
  pub leads : AreAlike (resolved page answer) (resolved page link)
  pub alone : WritesPathAlone (resolved page link) page answer
  pub least : ClimbsNoMore (resolved page link) page answer

-- the page is a URI, and the link a reference
abbrev pub AreUriAndReference : Text → Text → Type 0
AreUriAndReference page link = InUtf8 (IsUri uri_chars) page × InUtf8 (IsUriReference uri_chars) link

-- the link leads to the target's text, or it is that text and no reference leads there
abbrev pub IsExactLink : Text → Text → Text → Type 0
IsExactLink page target link = (led_text page link ≡ target) ⊎ ((link ≡ target) × NoneLeads iri_chars target page)
