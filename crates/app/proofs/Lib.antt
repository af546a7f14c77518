pub mod SameReply
