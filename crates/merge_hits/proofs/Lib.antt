pub mod SameReplies
