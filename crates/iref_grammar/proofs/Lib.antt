pub mod TextLemmas
pub mod ReadablePartsLemmas
pub mod RuleLemmas
pub mod EncodedLemmas
pub mod LackLemmas
pub mod LeafLemmas
pub mod CutLemmas
pub mod SliceLemmas
pub mod Ipv4Lemmas
pub mod Ipv4RuleLemmas
pub mod Ipv6Lemmas
pub mod HostLemmas
pub mod Ipv6CompleteLemmas
pub mod Ipv6RuleLemmas
pub mod ComponentLackLemmas
pub mod Utf8RuleLemmas
pub mod HostRuleLemmas
pub mod PartRuleLemmas
pub mod SegmentRuleLemmas
pub mod PathTextLemmas
pub mod AuthorityLemmas
pub mod AuthorityRuleLemmas
pub mod PathLemmas
pub mod PathRuleLemmas
pub mod PathTestLemmas
pub mod ReferenceCutLemmas
pub mod RangeLemmas
pub mod OnlyLemmas
pub mod ReadableLemmas
pub mod ReferenceRuleLemmas
pub mod WiderLemmas
mod GrammarRows
mod HostRows
mod TextRows
mod ReadingRows
pub mod GrammarSamples
pub mod SplitLemmas
pub mod ContextLemmas
pub mod ComponentLemmas
pub mod FrontLemmas
pub mod PctLemmas
pub mod EmptyLemmas
pub mod MarkLemmas
pub mod Rows
mod FunctionRows
mod StepRows
mod NormalRows
pub mod GuardLemmas
pub mod NormalLemmas
pub mod StayingLemmas
pub mod ItemLemmas
pub mod NormalPathLemmas
pub mod BackLemmas
pub mod ComparisonLemmas
pub mod CountedLemmas
pub mod FitsLemmas
pub mod StepSegmentLemmas
pub mod ReadableStepLemmas
pub mod RewritingLemmas
pub mod BothEndsLemmas
pub mod JoinedLemmas
pub mod SettledLemmas
pub mod PieceLemmas
pub mod DirectoryLemmas
pub mod PathGrammarLemmas
pub mod NormalGrammarLemmas
pub mod LeadingLemmas
pub mod KeyOrderLemmas
pub mod PathKeyLemmas
pub mod TieLemmas
pub mod KeyLemmas
pub mod PartTieLemmas
pub mod RelativeLemmas
pub mod ReadableRelativeLemmas
pub mod ResolvedLemmas
pub mod ReferenceStepLemmas
pub mod PortNumberLemmas
pub mod ZeroRunLemmas
pub mod HostNumberLemmas
pub mod Ipv6TextLemmas
pub mod MappedLemmas
pub mod MappedDecodedLemmas
pub mod MappedCharLemmas
pub mod MappedMarkLemmas
pub mod MappedRuleLemmas
pub mod MappedSpellingLemmas
pub mod MappedNormalLemmas
pub mod MappedKeyLemmas
pub mod MappedReferenceLemmas
pub mod AsciiReferenceLemmas
pub mod KnownCharacterLemmas
pub mod MappedBackLemmas
pub mod MappedIndexLemmas
pub mod MappedResolutionLemmas
pub mod MappedRelativeLemmas
pub mod MappingLawLemmas
mod ResolutionRows
mod RelativeRows
mod ReferenceRows
mod NumberRows
mod EditRows
mod OrderRows
mod MappingRows
mod RelativizedRows
pub mod ExactLemmas
pub mod WalkLemmas
pub mod WeightLemmas
pub mod StepsLemmas
pub mod AddedLemmas
pub mod StepsWeightLemmas
pub mod DividedLemmas
pub mod NormalWeightLemmas
pub mod RelativePathLemmas
pub mod ChoiceLemmas
pub mod CandidateLemmas
pub mod FullCaseLemmas
pub mod PlacedLemmas
pub mod PathCaseLemmas
pub mod CoveredLemmas
pub mod ReadableAnswerLemmas
pub mod TextLawLemmas
pub mod ReachableLemmas
pub mod LeadingCandidateLemmas
pub mod TestedLemmas
pub mod ChosenLemmas
pub mod PathLawLemmas
pub mod RelativizedLawLemmas
