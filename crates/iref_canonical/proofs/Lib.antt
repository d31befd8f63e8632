mod CanonicalRows
pub mod EncodedTextLemmas
pub mod PlainCharacterLemmas
pub mod CanonicalPathLemmas
pub mod CanonicalPartLemmas
pub mod CanonicalKeyLemmas
pub mod CanonicalTextLemmas
pub mod CanonicalLengthLemmas
pub mod DecodedLemmas
pub mod EncodedLemmas
pub mod SetLemmas
pub mod PutAuthorityLemmas
pub mod FutureLiteralLemmas
pub mod KeyByteLemmas
pub mod LiteralLengthLemmas
pub mod SpelledItemLemmas
pub mod ColonLemmas
pub mod PlainTextLemmas
pub mod PlainReferenceLemmas
pub mod ShapeLemmas
pub mod CanonicalSpellingLemmas
mod SortKeyRows
mod SortPrefixRows
pub mod SortKeyLemmas
pub mod SortPrefixLemmas
pub mod SortLengthLemmas
pub mod SortByteLemmas
pub mod SortItemLemmas
pub mod KeptPartLemmas
pub mod KeptPathLemmas
pub mod RootedPathLemmas
pub mod SortPutLemmas
pub mod SortBlockLemmas
pub mod SortShortLemmas
pub mod PaddedLemmas
pub mod SortCutLemmas
pub mod LongNameLemmas
pub mod HashedTextLemmas
pub mod HashedLemmas
pub mod HashedPartLemmas
pub mod KnownKeyLemmas
mod HashedRows
