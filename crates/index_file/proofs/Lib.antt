-- Lemmas on records as they are written and read.
pub mod Results
pub mod Scanned
pub mod Images
pub mod CallByCall
-- Lemmas behind the body of the first record.
pub mod MadeTexts
pub mod PlainData
-- Lemmas behind the bodies of segments.
pub mod PartsBack
pub mod SetsBack
pub mod BodiesBack
pub mod FreshPlaces
pub mod PlacesFollow
pub mod FilesCut
-- Lemmas behind what makes and opens an index.
pub mod Faults
pub mod ErrorsKept
pub mod FieldLists
pub mod Openings
pub mod OpenedSegments
pub mod PartsTaken
pub mod ListsMade
pub mod BodiesTaken
pub mod FilesRead
